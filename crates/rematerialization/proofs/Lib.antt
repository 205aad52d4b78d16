-- Laws behind the proofs of the handlers.
pub mod Known
pub mod Done
