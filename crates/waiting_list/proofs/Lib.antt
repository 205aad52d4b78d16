-- The laws of the waiting list's words.
pub mod StoredItems
pub mod Filters
pub mod Sent
