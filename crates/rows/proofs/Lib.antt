pub mod Area
pub mod RowBytes
pub mod Notices
