-- What forms 12 and 13 make of two singles.
pub mod Paired
