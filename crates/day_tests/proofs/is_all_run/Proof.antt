-- `day_tests::is_all_run` meets its contract. Assumes nothing.
use borrow.Author.Rules.{rules}
use Rattle.rulebook.specs.Windows.{all_run}
use Rattle.day_tests.proofs.is_all_run.Statement.{statement}
use Rattle.day_tests.proofs.is_all_run.Tie as tie

pub is_all_run_spec : {M : Type 1} → statement M
unfolding all_run
is_all_run_spec = tie.close (tie.spec (λ c κs. search rules) (λ c. cc))
