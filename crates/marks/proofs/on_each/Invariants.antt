-- The first i items are marked by what the test says of them, and the others are not.
use Rattle.std.proofs.Common.{◌≡◌, false, ℕ, ◌≤◌, ◌<◌}
use Rattle.marks.specs.Marks.{is_on}
use Rattle.marks.proofs.on_each.Given as goal

abbrev pub invariant-loop-i : goal.invariant-loop-i
invariant-loop-i g l =
    ((k : ℕ) → k < l.i → goal.F-post g l.test k (is_on l.marks k)) × ((k : ℕ) → l.i ≤ k → k < 64 → is_on l.marks k ≡ false)
