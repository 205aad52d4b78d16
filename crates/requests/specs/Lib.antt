-- The open requests for paper of a book: their numbers, and the words as a map.
pub mod Packed
pub mod Map
