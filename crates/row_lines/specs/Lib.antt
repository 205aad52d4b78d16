-- The lines of posting rows and notices.
pub mod Rows
