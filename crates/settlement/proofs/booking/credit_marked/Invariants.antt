-- The book has what the marked ones of the first i items bring.
use Rattle.book.specs.Meaning.{ledger_of}
use Rattle.settlement.proofs.Walking.{Credited}
use Rattle.settlement.proofs.booking.credit_marked.Given as goal

abbrev pub invariant-loop-i : goal.invariant-loop-i
invariant-loop-i l = Credited (ledger_of l.initial.book) l.marks l.i l.book
