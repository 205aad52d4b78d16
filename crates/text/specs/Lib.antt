-- Texts as bytes: words and numbers, and a text cut at a mark.
pub mod Text
pub mod Parts
