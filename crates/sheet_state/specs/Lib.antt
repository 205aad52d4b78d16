-- What a waiting item's line says of its state.
pub mod State
