-- `settlement::booking::book_marked` meets its contract. Assumes nothing.
use mathlib.Core.Path.{sym, ap, subst}
use borrow.Author.Rules.{rules}
use Rattle.rulebook.specs.Ledger.{Ledger, Holdings, put_holdings}
use Rattle.rulebook.specs.Movements.{credits, debits, booked}
use Rattle.rulebook.specs.Cycle.{legs}
use Rattle.rulebook.proofs.Steps.Settling.{legs-inside}
use Rattle.book.specs.Meaning.{ledger_of}
use Rattle.book.proofs.Parts.{next}
use Rattle.book.proofs.Handled.{means_so}
use Rattle.marks.specs.Marks.{with_mark, marked_of}
use Rattle.settlement.specs.Booking.{Covered}
use Rattle.settlement.proofs.Walking.{covered}
use Rattle.settlement.proofs.booking.book_marked.Statement.{statement}
use Rattle.settlement.proofs.booking.book_marked.Tie as tie

-- ---- places

abbrev entry : tie.After-credit_marked → tie.Start
entry c = c.before.before.before

abbrev credited : tie.After-debit_marked → tie.After-credit_marked
credited c = c.before.before.before.before

debit-marked-requires : tie.Need-debit_marked-requires
unfolding put_holdings
debit-marked-requires c κs =
    let f = c.before.before.before in
    let s = entry f in
    let m = f.credit_marked.ensures in
    let there = covered (ledger_of s.args.book.now) s.args.marks s.requires.1 s.requires.2 in
    (m.stored, subst (λ (x : Ledger). Covered x (marked_of s.args.marks x.waiting)) (sym m.ledger) there)

returns : tie.Need-returns
unfolding put_holdings booked
returns c =
    let k = c.before.before in
    let s = entry (credited k) in
    let b = ledger_of s.args.book.now in
    let trades = with_mark (marked_of s.args.marks b.waiting) in
    means_so _ _ _
    (next (λ x. put_holdings (debits (legs (with_mark (marked_of s.args.marks x.waiting))) x.holdings) x) (credited k).credit_marked.ensures
    k.debit_marked.ensures)
    -- trades change no held count
    (ap (λ (h : Holdings). put_holdings h b) (sym (legs-inside trades (debits (legs trades) (credits (legs trades) b.holdings)))))

pub book_marked_spec : {M : Type 1} → statement M
book_marked_spec = tie.close (tie.spec (λ c κs. search rules) debit-marked-requires (λ c. search rules) returns)
