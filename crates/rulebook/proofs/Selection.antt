-- What is proved of selections. Assumes nothing.

-- what is missing: a test over the trades finds every place that is short
pub mod Missing
-- the dropping ends with nothing short, and keeps what each that goes lacked
pub mod Dropping
-- passes keep nothing short, come to an end, and leave only what does not fit
pub mod Passes
-- all of it: `selected`, `nothing_fits_lem`, `enough_Turns`
pub mod Selected
-- where each trade goes by itself
pub mod Alone
-- of a book: what a cycle selects and fixes
pub mod Fixing
-- sums over trades fit a word
pub mod Bounds
