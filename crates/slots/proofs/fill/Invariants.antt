-- The first k slots are filled.
use Rattle.legs.specs.Figures.{from_at, to_at, Figures}
use Rattle.legs.specs.Slots.{slot_of}
use Rattle.slots.proofs.fill.Given as goal

abbrev pub invariant-loop-k : goal.invariant-loop-k
invariant-loop-k l = Figures l.k (λ i. slot_of l.legs l.n (from_at l.legs i)) (λ i. slot_of l.legs l.n (to_at l.legs i)) l.slots
