-- Of `line_blocks::convert_block`: the lines passed have put their records behind one another.
use Rattle.std.proofs.Common.{◌-◌, length}
use Rattle.line_blocks.proofs.Walking.{Walking}
use Rattle.line_blocks.proofs.convert_block.Given as goal

abbrev pub invariant-loop-size : goal.invariant-loop-size
invariant-loop-size l = Walking l.block l.places l.first l.fn.empty l.fn.out l.out l.checked.used l.checked.line l.checked.empty l.checked.wrote

abbrev pub decreases-loop-size : goal.decreases-loop-size
decreases-loop-size l = length l.block - l.checked.used
