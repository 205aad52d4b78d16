-- `day_tests::wrong_day` meets its contract. Assumes nothing.
use borrow.Author.Tests.{eq-eqb, ne_eqb}
use Rattle.rulebook.specs.Refusals.{wrong_day}
use Rattle.day_tests.proofs.wrong_day.Statement.{statement}
use Rattle.day_tests.proofs.wrong_day.Tie as tie

pub wrong_day_spec : {M : Type 1} → statement M
unfolding wrong_day
wrong_day_spec = tie.close (tie.spec (λ c. rw (eq-eqb _ _ c.before.before.if-order-eq1.true)) (λ c. rw (ne_eqb _ _ c.before.if-order-eq1.false)))
