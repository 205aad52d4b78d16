-- The laws of the requests' words.
pub mod Packed
pub mod Map
pub mod Changed
pub mod Ordered
