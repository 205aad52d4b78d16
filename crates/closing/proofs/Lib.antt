-- What close does with one item more, and the loop over the items.
pub mod Closing
pub mod Closed
