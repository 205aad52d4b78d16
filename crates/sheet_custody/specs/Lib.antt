-- What is issued, held and outside of each security (RULES 18.8).
pub mod Line
pub mod Rows
pub mod AsPrinted
