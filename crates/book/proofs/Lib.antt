-- The laws of a book's parts.
pub mod Parts
pub mod Zeros
pub mod Keys
pub mod Handled
