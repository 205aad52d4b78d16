-- what the parts of an answer leave
pub mod Whole
