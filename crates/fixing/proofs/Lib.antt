-- marks put onto the items of a list, one by one
pub mod Marking
-- and read from them
pub mod Borne
