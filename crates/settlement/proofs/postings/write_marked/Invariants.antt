-- The rows of the marked ones of the first i items stand before the next free byte.
use Rattle.book.specs.Meaning.{ledger_of}
use Rattle.settlement.proofs.Writing.{Written}
use Rattle.settlement.proofs.postings.write_marked.Given as goal

abbrev pub invariant-loop-i : goal.invariant-loop-i
invariant-loop-i l = Written (ledger_of l.book) l.marks l.initial.area l.area l.at l.i
