-- Laws behind the proofs of the handlers.
pub mod Admission
pub mod Known
pub mod Moved
