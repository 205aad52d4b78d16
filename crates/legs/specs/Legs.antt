-- The legs that a struct keeps, and what a change of their figures leaves as it was.
use Rattle.std.specs.Prelude.{ℕ, List, ◌≡◌}
use Rattle.legs.specs.Slots.{viewed}
use Rattle.legs.specs.declared.figures.Legs.{Legs}

-- the figures of each leg
abbrev pub figures_in : Legs → List ℕ
figures_in l = viewed l.slots l.figures

-- the same legs, their figures at the same slots
pub record SameLegs (before after : Legs) : Type 0 where
  pub trades : after.trades ≡ before.trades
  pub legs : after.legs ≡ before.legs
  pub slots : after.slots ≡ before.slots
