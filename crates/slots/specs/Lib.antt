-- How slots are found.
pub mod Links
