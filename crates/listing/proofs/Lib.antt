-- The laws of lists in order.
pub mod Below
pub mod ByNumber
pub mod Walking
pub mod Complete
pub mod HeldBack
pub mod LeftOut
pub mod Rows
pub mod Walks
