-- The waiting list of a book.
pub mod Waiting
