-- The names in the tables, and a name's number.
pub mod Tables
pub mod Numbers
