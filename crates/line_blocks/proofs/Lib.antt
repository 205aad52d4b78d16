-- the walk over the lines of a block
mod Walking
