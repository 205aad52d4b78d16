-- The sheet is printed where the input ended.
use Rattle.std.proofs.Common.{sym, ◌∙◌}
use Rattle.std.proofs.lemmas.Bool.{false≢true}
use Rattle.sheet.proofs.hand_over.Goals as goal

pub returns-then-ended : goal.returns-then-ended
returns-then-ended c = record { read = c.call_all-ended.ensures; sheet = λ e. c.print_sheet.ensures }

pub returns-else-ended : goal.returns-else-ended
returns-else-ended c = record {
  read = c.call_all-ended.ensures;
  sheet = λ e. absurd (false≢true (sym c.if-ended.false ∙ e));
}
