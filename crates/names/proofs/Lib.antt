-- a table of names, and a name's place in it
pub mod Named
