-- the numbers of a line, one after the other
mod Numbers
-- a line's order, and its record
mod Writing
