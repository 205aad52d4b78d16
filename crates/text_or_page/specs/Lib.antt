-- Lines of text, or a page of tables.
pub mod Written
pub mod Table
