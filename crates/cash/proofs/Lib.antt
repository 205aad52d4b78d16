-- The laws of the cash words.
pub mod StoredCash
