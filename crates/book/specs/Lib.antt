-- What a book of words means, and what is kept true of it.
pub mod Keys
pub mod Meaning
pub mod Stored
pub mod Fresh
pub mod Handled
