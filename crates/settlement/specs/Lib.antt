-- What the settlement of marked trades needs.
pub mod Booking
