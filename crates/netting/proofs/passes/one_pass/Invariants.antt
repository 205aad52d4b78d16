-- What is still out was not looked at, and all before it was.
use Rattle.marks.specs.Marks.{is_on, count_on}
use Rattle.legs.specs.Ready.{Ready}
use Rattle.netting.specs.Selected.{Started}
use Rattle.netting.proofs.Adding.{Passing}
use Rattle.netting.proofs.passes.one_pass.Given as goal

abbrev pub invariant-loop-out : goal.invariant-loop-out
invariant-loop-out g l =
    (r : Ready g.b) (s : Started g.b l.due l.before) → Passing g.b r l.due l.before s l.out l.marks l.shares l.cash

abbrev pub decreases-loop-out : goal.decreases-loop-out
decreases-loop-out g l = count_on (is_on l.out) 64
