-- Lists by places, tables and regions of words.
pub mod Places
pub mod Tables
pub mod OneRow
pub mod Regions
pub mod NextKeys
