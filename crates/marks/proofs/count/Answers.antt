-- `marks::count` meets its contract: the bit at i counts 1 where it is set. Assumes nothing.
use Rattle.std.specs.Prelude.{if◌then◌else◌}
use Rattle.std.proofs.Common.{arith}
use Rattle.plain.specs.Lists.{sum_below}
use Rattle.plain.proofs.Sums.{sum-last}
use Rattle.marks.specs.Marks.{is_on}
use Rattle.marks.proofs.Masks.{on_counts}
use Rattle.marks.proofs.count.Goals as goal

pub loop-i-init : goal.loop-i-init
unfolding sum_below
loop-i-init c = (omega arith, omega arith)

pub loop-i-preserved : goal.loop-i-preserved
loop-i-preserved c =
    let l = c.loop-i in
    (omega arith, omega (arith, l.invariant.1, on_counts c.args.marks l.i, sum-last l.i (λ k. if is_on c.args.marks k then 1 else 0)))
