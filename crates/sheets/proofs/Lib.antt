-- The laws of a sheet.
pub mod SameSheet
