-- Laws behind the proofs of a movement of shares.
pub mod Swap
pub mod Room
pub mod Moved
