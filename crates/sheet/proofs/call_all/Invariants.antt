-- What was read so far are whole records, called as one file. What is left of the numbers falls at each turn.
use Rattle.std.proofs.Common.{◌≡◌, ◌-◌, ◌^◌, length}
use Rattle.sheet.proofs.Blocks.{Whole}
use Rattle.sheet.proofs.call_all.Given as goal

abbrev pub invariant-loop-number : goal.invariant-loop-number
invariant-loop-number l =
    Whole l.fn.number l.fn.book l.fn.area l.number l.book l.area
    × (length l.book ≡ length l.fn.book)
    × (length l.area ≡ length l.fn.area)
    × (length l.input ≡ length l.fn.input)

abbrev pub decreases-loop-number : goal.decreases-loop-number
decreases-loop-number l = 2 ^ 64 - l.number
