-- The buffers, the first line, and what the lines in a buffer come to.
pub mod Buffers
pub mod First
pub mod Blocks
