use Rattle.std.proofs.Common.{length}
use Rattle.bits.specs.Bits.{Octets}
use Rattle.bits.specs.Layout.{puts}
use Rattle.bits.proofs.Packing.{Rest}
use Rattle.bits.proofs.pack_bits.Given as goal

-- what is left puts the rest
abbrev pub invariant-loop-width : goal.invariant-loop-width
invariant-loop-width l = Rest (puts l.initial.d 0 l.widths l.values) l.d l.widths l.values l.at (length l.yielded) × Octets l.initial.d
