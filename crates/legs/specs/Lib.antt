-- What a cycle's trades move, and what there is of it.
-- legs and figures in columns, and those of the waiting items
pub mod Figures
pub mod Filled
-- where the figures stand
pub mod Slots
-- the columns as a struct
pub mod Legs
-- what the cycle needs of a ledger
pub mod Ready
