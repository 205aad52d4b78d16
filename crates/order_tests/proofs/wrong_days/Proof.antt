-- `order_tests::wrong_days` meets its contract. Assumes nothing.
use borrow.Author.Rules.{rules}
use Rattle.rulebook.specs.Refusals.{wrong_days}
use Rattle.order_tests.proofs.wrong_days.Statement.{statement}
use Rattle.order_tests.proofs.wrong_days.Tie as tie

pub wrong_days_spec : {M : Type 1} → statement M
unfolding wrong_days
wrong_days_spec = tie.close (tie.spec (λ c κs. search rules) (λ c κs. search rules) (λ c. search rules) (λ c κs. search rules) (λ c. search rules) (λ c. cc))
