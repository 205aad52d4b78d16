-- lines of records, block after block
pub mod Blocks
