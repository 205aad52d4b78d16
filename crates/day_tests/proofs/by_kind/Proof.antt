-- `day_tests::by_kind` meets its contract. Assumes nothing.
use borrow.Author.Tests.{ne_eqb}
use Rattle.rulebook.specs.Windows.{by_kind}
use Rattle.day_tests.proofs.by_kind.Statement.{statement}
use Rattle.day_tests.proofs.by_kind.Tie as tie

pub by_kind_spec : {M : Type 1} → statement M
unfolding by_kind
by_kind_spec = tie.close (tie.spec (λ c. rw c.if-kind-eq1.true) (λ c. rw (ne_eqb _ _ c.if-kind-eq1.false)))
