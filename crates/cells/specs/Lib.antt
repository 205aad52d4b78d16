-- A text's lines, a line's cells, a cell's number.
pub mod Cells
