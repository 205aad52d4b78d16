-- Tests on numbers, lists and sums.
pub mod Lists
