-- A buffer of words: lists by places, tables, regions.
pub mod Places
pub mod Tables
pub mod Regions
pub mod Order
