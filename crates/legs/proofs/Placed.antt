-- Where the figures of a leg stand, for legs that a struct keeps. Assumes nothing.
use Prim.Native.Nat.{ℕ, ◌+◌, ◌≤◌, ◌<◌}
use mathlib.Core.Path.{◌≡◌}
use lib.ListN.{length, get_or}
use Rattle.legs.specs.declared.figures.Legs.{Legs}
use Rattle.legs.proofs.Changing.{Spot}
use Rattle.legs.proofs.Slotted as slotted

pub from_below : (l : Legs) (j : ℕ) → j < l.trades → get_or l.slots j 0 < 64
from_below l j low = slotted.from_low l.trades l.legs l.slots l.slots l.few l.slotted.long l.slotted j low

pub to_below : (l : Legs) (j : ℕ) → j < l.trades → get_or l.slots (j + 64) 0 ≤ 64
to_below l j low = slotted.to_most l.trades l.legs l.slots l.slots l.few l.slotted.long l.slotted j low

pub spot : (l : Legs) (j : ℕ) → j < l.trades → length l.figures ≡ 128 → Spot l.trades l.legs l.slots l.figures j
spot l j low long = record { size = l.few; long = long; slots_as = l.slotted; low = low }
