-- An order that was read, and one that no refusal applies to.
pub mod Given
