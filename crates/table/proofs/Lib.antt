-- how often a place stands among others
pub mod Places
-- what the columns of an accepted first line are, and what an accepted line puts into the fields
pub mod Meaning
-- the theorems of specs/Theorems on names, on what is written, and on empty lines
pub mod Theorems
-- those on the order of the columns
pub mod AnyOrder
-- that on one more column
pub mod OneMore
-- that the table of some orders imports as these orders
pub mod Exporting
-- the lines of a block, one after the other, and their records
pub mod Walking
-- the theorems on a table in blocks
pub mod InBlocks
-- tables as a clerk sees them, computed
pub mod Desk
