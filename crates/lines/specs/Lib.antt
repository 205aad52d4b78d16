-- The lines of the printing program.
pub mod Lines
