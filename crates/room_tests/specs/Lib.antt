-- Room in a book, and what an account offers.
pub mod Room
pub mod Offered
