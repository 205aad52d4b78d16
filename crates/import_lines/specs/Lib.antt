-- The line that is told of a refused table.
pub mod Told
