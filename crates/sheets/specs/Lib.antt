-- The handover sheet of a book, whole.
pub mod Page
pub mod Sheet
