-- The book is without what the marked ones of the first i items take.
use Rattle.book.specs.Meaning.{ledger_of}
use Rattle.settlement.proofs.Walking.{Debited}
use Rattle.settlement.proofs.booking.debit_marked.Given as goal

abbrev pub invariant-loop-i : goal.invariant-loop-i
invariant-loop-i l = Debited (ledger_of l.initial.book) l.marks l.i l.book
