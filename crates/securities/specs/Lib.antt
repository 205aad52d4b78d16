-- The securities of a book.
pub mod Admitted
