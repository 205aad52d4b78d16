-- The laws of what is held.
pub mod AsPrinted
pub mod Nobody
