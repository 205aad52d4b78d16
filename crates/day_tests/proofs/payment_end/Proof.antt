-- `day_tests::payment_end` meets its contract. Assumes nothing.
use borrow.Author.Rules.{rules}
use mathlib.Core.Path.{◌∙◌}
use borrow.Author.Tests.{eq-eqb, ne_eqb}
use Rattle.day_tests.proofs.payment_end.Statement.{statement}
use Rattle.day_tests.proofs.payment_end.Tie as tie

pub payment_end_spec : {M : Type 1} → statement M
payment_end_spec =
    tie.close
    (tie.spec (λ c κs. search rules) (λ c. c.by_kind.ensures ∙ rw (eq-eqb _ _ c.before.if-settlement_day-day.true)) (λ c κs. search rules)
    (λ c. c.office_end.ensures ∙ rw (ne_eqb _ _ c.before.if-settlement_day-day.false)))
