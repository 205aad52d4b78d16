-- A waiting item's line.
pub mod ItemLine
