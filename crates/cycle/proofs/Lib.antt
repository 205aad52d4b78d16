-- what the parts of a cycle leave
pub mod Whole
