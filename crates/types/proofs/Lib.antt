-- what the table's words say is what the rulebook's rows say
pub mod Rows
