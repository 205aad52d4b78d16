-- Lists in order, and those of a handover sheet.
pub mod InOrder
pub mod Listed
pub mod ByNumber
pub mod Complete
