-- The first i legs are linked.
use Rattle.slots.specs.Links.{Linked}
use Rattle.slots.proofs.link.Given as goal

abbrev pub invariant-loop-i : goal.invariant-loop-i
invariant-loop-i l = Linked l.i l.legs l.links
