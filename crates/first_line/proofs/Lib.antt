-- the column of a field, a byte-order mark, and the columns, one after the other
mod Heading
