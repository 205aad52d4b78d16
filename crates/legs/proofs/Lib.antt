-- a search from the end
pub mod Searches
-- figures: as loops store them, and with all marked legs added
pub mod Filling
pub mod Adding
-- figures read through slots: a store at a slot, and a leg added or taken away
pub mod Slotted
pub mod Changing
-- for legs that a struct keeps
pub mod Placed
pub mod Same
-- what the rulebook's premise gives
pub mod Premises
