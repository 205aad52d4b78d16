-- The laws of the waiting items.
pub mod Nobody
