-- What is known of such an order.
pub mod Orders
pub mod Endings
pub mod Passed
