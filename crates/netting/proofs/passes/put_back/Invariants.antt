-- The passes that were made, and those that are still to be made.
use Rattle.std.proofs.Common.{◌-◌, ◌^◌, ◌<◌, List, length}
use Rattle.rulebook.specs.Selection.{Entry}
use Rattle.marks.specs.Marks.{is_on, count_on}
use Rattle.netting.specs.Figured.{Figured}
use Rattle.netting.specs.Selected.{Started, Stands}
use Rattle.netting.proofs.Repeating.{Run}
use Rattle.netting.proofs.passes.put_back.Given as goal

abbrev pub ghost-one_pass : goal.ghost-one_pass
ghost-one_pass g a = g.b

abbrev pub invariant-loop-marks : goal.invariant-loop-marks
invariant-loop-marks g l =
    Started g.b l.due l.marks
    × Figured g.b l.marks l.shares l.cash
    × ((es : List Entry) → Stands g.b l.due l.kept es → Run g.b l.due es l.marks)
    × (l.marks < 2 ^ 64)

abbrev pub decreases-loop-marks : goal.decreases-loop-marks
decreases-loop-marks g l = let n = length g.b.waiting in n - count_on (is_on l.marks) n
