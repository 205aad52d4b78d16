-- bytes that are shown, and names in brackets
pub mod Showing
