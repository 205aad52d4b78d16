-- The rows of the first securities were put.
use Rattle.book.specs.Meaning.{ledger_of}
use Rattle.listing.proofs.Rows.{Counted, placed}
use Rattle.sheet_custody.specs.Line.{security_line}
use Rattle.sheet_custody.proofs.Nobody.{no_security}
use Rattle.sheet_custody.proofs.rows.put_rows.Given as goal

abbrev pub invariant-loop-i : goal.invariant-loop-i
invariant-loop-i g l = Counted (security_line l.page) (placed (ledger_of l.book).holdings.securities no_security) 500 l.initial.out l.out l.i
