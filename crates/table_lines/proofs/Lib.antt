-- the lines of records, in blocks too
pub mod Lines
