-- The first i items have their marks.
use Rattle.book.specs.Meaning.{ledger_of}
use Rattle.fixing.proofs.Marking.{Fixing}
use Rattle.fixing.proofs.fix.Given as goal

abbrev pub invariant-loop-i : goal.invariant-loop-i
invariant-loop-i l = Fixing (ledger_of l.initial.book) l.marks l.book l.i
