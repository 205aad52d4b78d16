-- Marks on the items of a waiting list.
pub mod Marks
