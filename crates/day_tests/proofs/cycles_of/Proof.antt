-- `day_tests::cycles_of` meets its contract. Assumes nothing.
use borrow.Author.Tests.{ne_eqb}
use Rattle.rulebook.specs.Windows.{by_kind, cycle_minutes}
use Rattle.day_tests.proofs.cycles_of.Statement.{statement}
use Rattle.day_tests.proofs.cycles_of.Tie as tie

pub cycles_of_spec : {M : Type 1} → statement M
unfolding by_kind cycle_minutes
cycles_of_spec = tie.close (tie.spec (λ c. rw c.if-kind-eq1.true) (λ c. rw (ne_eqb _ _ c.if-kind-eq1.false)))
