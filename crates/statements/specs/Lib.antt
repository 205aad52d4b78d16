-- What a statement prints of records, that it tells the rows of the rulebook's effects, and an example.
pub mod Stated
pub mod Told
pub mod Example
