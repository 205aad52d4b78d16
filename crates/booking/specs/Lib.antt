-- When shares can move.
pub mod Fits
