-- What is proved of cycles that are sent and answered, a file for each theorem. Assumes nothing.

-- what an answer meets: `answer_refusals_lem`
pub mod Refusals
-- what it leaves would not fit: `left-unfit`
pub mod Leaving
-- what is fixed stays until it is answered: `fixed-stays`
pub mod Staying
-- and is booked as it was sent: `confirmed_as_sent_lem`
pub mod Confirming
-- or waits on as if it had not been: what others do in between, and `declined-as_unsent`
pub mod Between
pub mod Declining
-- what an account offers: `offer_exact_lem`
pub mod Offering
-- a day can always be finished: `day_finishes_lem`
pub mod Finishing
