-- The close of a day before the day itself is closed.
pub mod Closing
