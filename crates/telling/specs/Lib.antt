-- How a program is told what a book says.
pub mod Told
