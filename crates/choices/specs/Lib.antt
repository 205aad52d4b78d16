-- What else may be asked of the trades that wait. No form asks for it yet.
-- a choice of trades by a mask
pub mod Mask
-- pay-ins with which nothing is short
pub mod Clearing
-- examples
pub mod Desk
