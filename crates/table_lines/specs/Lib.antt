-- The table that records say.
pub mod Exported
