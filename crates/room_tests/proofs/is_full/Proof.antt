-- `room_tests::is_full` meets its contract. Assumes nothing.
use borrow.Author.Rules.{rules}
use Rattle.room_tests.proofs.is_full.Statement.{statement}
use Rattle.room_tests.proofs.is_full.Tie as tie

returns : tie.Need-returns
returns c = rw (c.before.accounts.ensures, c.items.ensures)

pub is_full_spec : {M : Type 1} → statement M
is_full_spec = tie.close (tie.spec (λ c κs. c.before.requires.stored) (λ c κs. c.before.before.requires.stored) (λ c. search rules) returns)
