-- `room_tests::no_room_between` meets its contract. Assumes nothing.
use borrow.Author.Rules.{rules}
use Rattle.room_tests.proofs.no_room_between.Statement.{statement}
use Rattle.room_tests.proofs.no_room_between.Tie as tie

returns : tie.Need-returns
returns c =
    let here = c.before.before.before.before in
    rw (here.before.balance-to_has.ensures, here.balance-from_has.ensures, c.is_full.ensures)

pub no_room_between_spec : {M : Type 1} → statement M
no_room_between_spec = tie.close (tie.spec (λ c κs. search rules) (λ c κs. search rules) (λ c κs. search rules) returns)
