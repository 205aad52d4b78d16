-- a walk over the bytes of a cell: over blanks, over digits
pub mod Bytes
-- a block's lines, one after the other
pub mod Splits
