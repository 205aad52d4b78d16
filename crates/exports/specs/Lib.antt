-- What C programs lend, and what the functions do with it.
pub mod Lent
pub mod Words
