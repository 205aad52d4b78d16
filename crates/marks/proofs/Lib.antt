-- A mask's bits, and the waiting list with its marks.
pub mod Masks
pub mod Marking
-- marks on the items that pass a test
pub mod ByTest
