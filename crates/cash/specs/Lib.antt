-- The members' cash of a book.
pub mod Amounts
