-- The marks and the figures are those of some rounds, and none from `top` on is short.
use Rattle.std.proofs.Common.{◌≡◌, ◌≤◌, ◌<◌, ℕ, false, length}
use mathlib.Core.Bool.{◌&&◌, ◌||◌}
use Rattle.marks.specs.Marks.{is_on, count_on}
use Rattle.legs.specs.Figures.{short_at}
use Rattle.legs.specs.Legs.{figures_in}
use Rattle.legs.specs.Ready.{Ready}
use Rattle.netting.proofs.Running.{Running}
use Rattle.netting.proofs.rounds.drop_short.Given as goal

abbrev pub invariant-loop-j : goal.invariant-loop-j
invariant-loop-j g l =
    ((r : Ready g.b) → Running g.b r l.due l.marks l.shares l.cash)
    × (l.top ≤ length g.b.waiting)
    × ((k : ℕ) → l.top ≤ k → k < length g.b.waiting
    → (is_on l.marks k && (short_at (figures_in l.shares) k || short_at (figures_in l.cash) k)) ≡ false)

abbrev pub decreases-loop-j : goal.decreases-loop-j
decreases-loop-j g l = count_on (is_on l.marks) (length g.b.waiting)
