-- records called one after the other
pub mod AnswerLines
-- a file that is read in blocks prints what it prints as one (`in_blocks`)
pub mod Blocks
-- the lines of the first securities, and one more
mod CustodyLines
-- what is printed as held is what the accounts hold
pub mod HeldPrinted
-- the example of RULES 13.7
pub mod FiveLines
