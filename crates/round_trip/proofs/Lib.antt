-- the table that is written of records that read
mod Tables
-- a record file and the orders of its records
mod Files
-- a record that does not read
mod Unreadable
-- the theorems
pub mod RoundTrips
