-- The laws of the accounts' words.
pub mod Keys
pub mod Rows
pub mod Map
pub mod CountedRows
pub mod Ordered
