-- The lines of a statement.
pub mod Lines
