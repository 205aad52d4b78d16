-- The members' cash (RULES 18.6).
pub mod Line
pub mod Rows
