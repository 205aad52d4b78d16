-- What holds of legs that a struct keeps holds where it keeps the same ones. Assumes nothing.
use Prim.Native.Nat.{ℕ}
use mathlib.Core.List.{List}
use mathlib.Core.Path.{refl, ◌∙◌}
use Rattle.legs.specs.Legs.{SameLegs}
use Rattle.legs.specs.declared.figures.Legs.{Legs}

module _ (Holds : (n : ℕ) (legs slots : List ℕ) → Type 0) {before after : Legs} (s : SameLegs before after) where
  pub same_as : Holds before.trades before.legs before.slots → Holds after.trades after.legs after.slots
  same_as p = rw (s.trades, s.legs, s.slots) p

  pub same_was : Holds after.trades after.legs after.slots → Holds before.trades before.legs before.slots
  same_was p = rw (← s.trades, ← s.legs, ← s.slots) p

pub same_own : {l : Legs} → SameLegs l l
same_own = record { trades = refl; legs = refl; slots = refl }

pub same_on : {a b c : Legs} → SameLegs a b → SameLegs b c → SameLegs a c
same_on s t = record { trades = t.trades ∙ s.trades; legs = t.legs ∙ s.legs; slots = t.slots ∙ s.slots }
