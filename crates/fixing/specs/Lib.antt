-- Marks that items bear.
pub mod Borne
