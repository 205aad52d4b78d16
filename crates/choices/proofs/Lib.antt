-- a good mask is what is sent, and each choice with nothing short has one: `optimised-laws`, `good_mask_lem`
pub mod Mask
-- pay-ins that clear trades, and what is known of those between two amounts: `clearing-laws`, `sends_all`, `verdict-laws`
pub mod Clearing
-- the examples: `desk`
pub mod Desk
