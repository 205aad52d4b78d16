-- what a call can result in, and that its rows are told as the rulebook has them
mod Results
-- records called one after the other, and a walk over those of a file
pub mod Walks
-- records whose lines are printed piece by piece
pub mod Pieces
-- a statement tells the rows of the rulebook's effects: `told`
pub mod Told
-- the example of RULES 17.7
pub mod Example
