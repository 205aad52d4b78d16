-- movements, one trade after the other, and the book after them
pub mod Posting
pub mod Walking
-- rows, and the items that stay
pub mod Writing
pub mod Staying
