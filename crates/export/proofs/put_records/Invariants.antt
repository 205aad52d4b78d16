-- What was read so far are whole records, and their lines have left the buffer or stand in it. What is left of the count falls at each turn.
use Rattle.std.proofs.Common.{◌≡◌, ◌-◌, ◌^◌, length}
use Rattle.export.proofs.Blocks.{Whole}
use Rattle.export.proofs.put_records.Given as goal

abbrev pub invariant-loop-records : goal.invariant-loop-records
invariant-loop-records l = Whole l.fn.records l.fn.out l.records l.out × (length l.input ≡ length l.fn.input)

abbrev pub decreases-loop-records : goal.decreases-loop-records
decreases-loop-records l = 2 ^ 64 - l.records
