-- The accounts whose shares are pledged, blocked or in transit (RULES 18.5).
pub mod Line
pub mod Rows
