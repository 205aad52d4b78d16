-- How far a buffer was filled.
pub mod Input
