-- The first j items are those of the first i without a mark.
use Rattle.book.specs.Meaning.{ledger_of}
use Rattle.settlement.proofs.Staying.{Staying}
use Rattle.settlement.proofs.leaving.leave_marked.Given as goal

abbrev pub invariant-loop-i : goal.invariant-loop-i
invariant-loop-i l = Staying (ledger_of l.initial.book) l.marks l.book l.j l.i
