-- WHAT IS PROMISED OF THE DEFINITIONS

-- all of it, as specs/Theorems states it: `theorems`
pub mod Theorems
-- both round trips of a record: `write_read` and `read-write`
pub mod RoundTrips
-- demand 3, over every list of calls: `demand3`
pub mod Demand3
-- the desk checks: `desk`
pub mod Desk
-- a call answers with the first of its checks that applies: `checking_order_lem`
pub mod CheckingOrder
-- account types: what each form allows, over all pairs of types
pub mod AdmittedTypes
-- the rate: of every list of calls, what pairs by it, what form 18 does and meets
pub mod Rates
-- requests for paper: their shares are there, they stay until they are ended, and can be ended on every later day
pub mod Rematerialization
-- held counts: what each form does to them, and that they are what the accounts hold, over every list of calls
pub mod Custody
-- sent cycles: what they fix stays, is booked as it was sent, or waits on as if it had not been; what an account offers; that a day can be finished
pub mod SentCycles
-- the premise: the fresh book meets it (`fresh-premise`) and every call keeps it (`call_premise`), so the number of accounts that a book carries is
-- the number of those with a balance (`accounts_counted`)
pub mod EveryCall
-- WHAT THE CODE'S PROOFS CITE

-- movements: what they do to each place (`booked-exact`), and what each change that they make keeps (`booked-puts`)
pub mod Places
pub mod Booking
-- the cycle: what it selects makes nothing short (`Selection.Fixing.nothing_short`), so no debit of a settlement is cut off at 0 (`Steps.Settling.cycle-exact`)
pub mod Selection
pub mod Settled
-- refusal 18: forms that never get it (`never_grows_lem`), a cycle among them (`cycle-space`); for the others a test on the book before the call
pub mod Sizes
pub mod Space
-- no call writes more than 256 rows
pub mod RowCounts
-- the premise as code reads it: how large each number is, the lists at an index, no pair with both halves marked, what a cancel does
pub mod Bounds
pub mod ByIndex
pub mod Halves
pub mod Cancelling
-- ranges of forms
pub mod Within
-- WHAT THESE REST ON

-- a test on every number below another: a table's rule by one computed test
pub mod Below
-- account types: from the table's rows to every type, and what follows for forms; sums over accounts, securities, rows that are read back, what movements do
-- to sums
pub mod TypeTable
pub mod Types
pub mod Accounts
pub mod Held
pub mod Securities
-- one request that is opened or ended, and that its shares are there
pub mod Requests
-- what movements do to held counts
pub mod Recounting
pub mod Reading
pub mod Sums
-- checking orders: the test of a number (`none_applies`), one order behind another (`first-append`)
pub mod Checking
pub mod Answers
-- an order that was read, and one that no test refuses
pub mod Orders
-- from forms to calls and lists of calls, and the step that each form makes
pub mod ByCall
pub mod Steps
