-- `day_tests::answer_end` meets its contract. Assumes nothing.
use borrow.Author.Rules.{rules}
use mathlib.Core.Path.{sym, ◌∙◌}
use Rattle.day_tests.proofs.answer_end.Statement.{statement}
use Rattle.day_tests.proofs.answer_end.Tie as tie

returns : tie.Need-returns-then-is_all_run
returns c = rw (sym c.before.is_all_run.ensures ∙ c.if-is_all_run.true)

returns-2 : tie.Need-returns
returns-2 c = c.office_end.ensures ∙ rw (sym c.before.before.is_all_run.ensures ∙ c.before.if-is_all_run.false)

pub answer_end_spec : {M : Type 1} → statement M
answer_end_spec = tie.close (tie.spec (λ c κs. search rules) returns (λ c κs. search rules) returns-2)
