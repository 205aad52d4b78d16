-- The accounts of a book: keys, and the words as a map.
pub mod Keys
pub mod Map
