-- A comma-separated table with named columns, and the orders that it says.
pub mod Places
pub mod Header
pub mod Lines
pub mod Import
pub mod Blocks
pub mod Export
pub mod Theorems
pub mod Desk
