-- The waiting items (RULES 18.4).
pub mod Rows
