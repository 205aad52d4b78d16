-- `cells::trimmed` meets its contract: blanks before, then blanks behind. Assumes nothing.
use Rattle.std.proofs.Common.{ap, ◌∙◌}
use Rattle.cells.specs.Cells.{back, trim}
use Rattle.cells.proofs.Bytes.{rest_all}
use Rattle.cells.proofs.trimmed.Goals as goal

pub returns : goal.returns
unfolding trim
returns c = c.blanks_behind.ensures.1 ∙ ap back (rest_all c.blanks_before-start.result c.args.cell.now ∙ c.blanks_before-start.ensures.1)
