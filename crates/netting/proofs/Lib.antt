-- rounds and passes by marks are those of the selection
pub mod Entries
-- figures under marks, and that the legs of a book have such
pub mod Netting
pub mod Columns
-- rounds: the last that passes a test is dropped, and what code keeps true while it runs
pub mod Drops
pub mod Running
-- passes: one by places, and what code keeps true while it runs
pub mod Walk
pub mod Adding
pub mod Repeating
