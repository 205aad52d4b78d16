-- The open requests for paper (RULES 18.7).
pub mod Line
pub mod Rows
