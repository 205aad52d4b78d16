-- Laws of tests, of lists and of sums.
pub mod Tests
pub mod Lists
pub mod Sums
