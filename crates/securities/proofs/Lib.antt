-- The laws of the securities' words: what is read, counts that are stored, a security that is admitted.
pub mod StoredSecurities
pub mod StoredCounts
pub mod Admission
