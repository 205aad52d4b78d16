-- records, block after block
pub mod Blocks
