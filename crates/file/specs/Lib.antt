-- A record file.
pub mod Records
