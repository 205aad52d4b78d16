-- The table of forms, for the handlers.
pub mod ByForm
