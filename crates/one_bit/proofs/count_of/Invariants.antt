-- A turn counts one change more.
use Rattle.std.proofs.Common.{◌≡◌, ◌≤◌}
use Rattle.one_bit.specs.Changes.{count_of}
use Rattle.one_bit.proofs.count_of.Given as goal

abbrev pub invariant-loop-bit : goal.invariant-loop-bit
invariant-loop-bit l = (l.count ≤ l.bit) × (l.count ≡ count_of l.record l.number l.bit)
