-- `day_tests::goes_back` meets its contract. Assumes nothing.
use borrow.Author.Rules.{rules}
use Rattle.rulebook.specs.Refusals.{goes_back}
use Rattle.day_tests.proofs.goes_back.Statement.{statement}
use Rattle.day_tests.proofs.goes_back.Tie as tie

pub goes_back_spec : {M : Type 1} → statement M
unfolding goes_back
goes_back_spec = tie.close (tie.spec (λ c. search rules))
