use Rattle.bits.specs.Bits.{Octets}
use Rattle.bits.proofs.Numbers.{Filled, target}
use Rattle.bits.proofs.put_bits.Given as goal

-- the word's bytes so far are stored
abbrev pub invariant-loop-i : goal.invariant-loop-i
invariant-loop-i l = Filled l.initial.d l.d (target l.initial.d l.at l.width l.value) l.last l.i × Octets l.initial.d
