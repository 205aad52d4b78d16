-- The count is that of the first i.
use Rattle.std.proofs.Common.{◌≡◌, ◌≤◌}
use Rattle.marks.specs.Marks.{is_on, count_on}
use Rattle.marks.proofs.count.Given as goal

abbrev pub invariant-loop-i : goal.invariant-loop-i
invariant-loop-i l = (l.marked ≤ l.i) × (l.marked ≡ count_on (is_on l.marks) l.i)
