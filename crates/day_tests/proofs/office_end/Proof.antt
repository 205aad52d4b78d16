-- `day_tests::office_end` meets its contract. Assumes nothing.
use borrow.Author.Rules.{rules}
use Rattle.rulebook.specs.Windows.{office_end}
use Rattle.day_tests.proofs.office_end.Statement.{statement}
use Rattle.day_tests.proofs.office_end.Tie as tie

pub office_end_spec : {M : Type 1} → statement M
unfolding office_end
office_end_spec = tie.close (tie.spec (λ c κs. search rules) (λ c. c.by_kind.ensures))
