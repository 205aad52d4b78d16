-- Patterns of lines, and what they say of numbers.
pub mod Fill
pub mod Meant
