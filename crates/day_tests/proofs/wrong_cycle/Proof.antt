-- `day_tests::wrong_cycle` meets its contract. Assumes nothing.
use borrow.Author.Rules.{rules}
use Rattle.rulebook.specs.Refusals.{wrong_cycle}
use Rattle.day_tests.proofs.wrong_cycle.Statement.{statement}
use Rattle.day_tests.proofs.wrong_cycle.Tie as tie

pub wrong_cycle_spec : {M : Type 1} → statement M
unfolding wrong_cycle
wrong_cycle_spec = tie.close (tie.spec (λ c κs. search rules) (λ c. cc))
