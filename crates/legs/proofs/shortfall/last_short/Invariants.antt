-- None from i on is such a trade.
use Rattle.std.proofs.Common.{◌≡◌}
use Rattle.marks.specs.Marks.{is_on}
use Rattle.legs.specs.Figures.{last_short}
use Rattle.legs.specs.Legs.{figures_in}
use Rattle.legs.proofs.shortfall.last_short.Given as goal

abbrev pub invariant-loop-i : goal.invariant-loop-i
invariant-loop-i l =
    let short = last_short (is_on l.marks) (figures_in l.shares) (figures_in l.cash) in short l.n ≡ short l.i
