-- bytes put one behind the other (`put_then`)
pub mod Putting
-- a number's digits: that they are the library's, and that they read back as the number
pub mod Digits
-- the parts of a text, one after the other, and texts compared
pub mod Cutting
