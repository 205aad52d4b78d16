-- The arms of a `match` on a number.
mod Arms
