-- The records before a place were called. What is left of the file falls at each turn, or what stands in the buffer does.
use Rattle.std.proofs.Common.{◌≡◌, ◌+◌, ◌*◌, length}
use Rattle.file.specs.Records.{records_of}
use Rattle.statement.proofs.Parts.{Walked}
use Rattle.statement.proofs.state_file.Given as goal

abbrev pub invariant-loop-rest : goal.invariant-loop-rest
invariant-loop-rest l =
    Walked l.fn.file l.fn.number l.fn.book l.fn.area l.fn.out l.rest l.number l.book l.area l.out
    × (length l.book ≡ length l.fn.book)
    × (length l.area ≡ length l.fn.area)

abbrev pub decreases-loop-rest : goal.decreases-loop-rest
decreases-loop-rest l = length (records_of l.rest) * 524289 + length l.out
