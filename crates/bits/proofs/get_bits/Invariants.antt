use Rattle.std.proofs.Common.{◌+◌, ◌/◌}
use Rattle.bits.proofs.Numbers.{Folded}
use Rattle.bits.proofs.get_bits.Given as goal

-- the bytes so far are folded into the word
abbrev pub invariant-loop-b : goal.invariant-loop-b
invariant-loop-b l = Folded l.s (l.at / 8) (l.at / 8 + l.b-index) l.word
