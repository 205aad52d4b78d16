-- The figures have the marked ones of the first j legs.
use Rattle.marks.specs.Marks.{is_on}
use Rattle.legs.specs.Legs.{figures_in, SameLegs}
use Rattle.legs.specs.Slots.{viewed}
use Rattle.legs.proofs.Adding.{Added}
use Rattle.legs.proofs.figures.Legs.add_marked.Given as goal

abbrev pub invariant-loop-j : goal.invariant-loop-j
invariant-loop-j l =
    let start = l.initial.self in
    SameLegs start l.self × Added start.trades (is_on l.marks) start.legs (figures_in start) l.j (viewed start.slots l.self.figures)
