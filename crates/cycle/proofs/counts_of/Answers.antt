-- `cycle::counts_of` meets its contract. Assumes nothing.
use Rattle.rulebook.specs.Forms.{counts}
use Rattle.cycle.proofs.counts_of.Goals as goal

pub returns : goal.returns
unfolding counts
returns c = rw (c.no_counts.ensures, c.count-due.ensures, c.count-fixed.ensures)
