-- `room_tests::is_list_full` meets its contract. Assumes nothing.
use borrow.Author.Rules.{rules}
use Rattle.room_tests.proofs.is_list_full.Statement.{statement}
use Rattle.room_tests.proofs.is_list_full.Tie as tie

returns : tie.Need-returns
returns c = rw (c.before.items.ensures, c.is_full.ensures)

pub is_list_full_spec : {M : Type 1} → statement M
is_list_full_spec = tie.close (tie.spec (λ c κs. c.before.requires.stored) (λ c κs. search rules) returns)
