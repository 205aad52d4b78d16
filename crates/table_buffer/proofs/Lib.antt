-- lines in blocks
pub mod Laws
-- the first line
mod Heading
