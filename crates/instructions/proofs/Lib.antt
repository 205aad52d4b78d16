-- Laws behind the proofs of the handlers.
pub mod Roomy
pub mod Arriving
pub mod Cancels
