-- The first i legs are what each is asked.
use Rattle.legs.proofs.Filling.{Filled}
use Rattle.legs.proofs.fill.Given as goal

abbrev pub invariant-loop-i : goal.invariant-loop-i
invariant-loop-i g l = Filled (λ k leg. goal.F-post g l.leg_of k leg) l.i l.legs l.figures
