-- the lines of rows that were written are those of the rows
pub mod Rows
