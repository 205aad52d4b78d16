-- The bytes that were read lie inside the buffer, which keeps its length. What is left of the buffer falls at each turn.
use Rattle.std.proofs.Common.{length, ◌-◌, ◌≡◌, ◌≤◌}
use Rattle.streams.proofs.fill.Given as goal

abbrev pub invariant-loop-size : goal.invariant-loop-size
invariant-loop-size g l = (l.size ≤ length l.fn.input) × (length l.input ≡ length l.fn.input)

abbrev pub decreases-loop-size : goal.decreases-loop-size
decreases-loop-size g l = length l.fn.input - l.size
