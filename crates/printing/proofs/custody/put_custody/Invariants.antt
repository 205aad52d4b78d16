-- The lines of the first securities were put.
use Rattle.std.proofs.Common.{◌≡◌, ◌≤◌, ◌+◌, ◌*◌, ◌++◌, length, take}
use Rattle.book.specs.Meaning.{ledger_of}
use Rattle.printing.specs.Printed.{custody_from}
use Rattle.printing.proofs.custody.put_custody.Given as goal

abbrev pub invariant-loop-i : goal.invariant-loop-i
invariant-loop-i g l =
    (l.out ≡ l.initial.out ++ custody_from (take l.i (ledger_of l.book).holdings.securities)) × (length l.out ≤ length l.initial.out + 112 * l.i)
