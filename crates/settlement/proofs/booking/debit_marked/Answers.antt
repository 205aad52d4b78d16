-- `settlement::booking::debit_marked` meets its contract: the one at i takes what it does from the book without what those before it took. Assumes nothing.
use Rattle.std.proofs.Common.{◌+◌, ◌<◌, List, length, sym, subst, ◌∙◌, arith}
use Rattle.rulebook.specs.declared.Item.{Item}
use Rattle.book.specs.Meaning.{ledger_of}
use Rattle.marks.specs.Marks.{no_item}
use Rattle.settlement.proofs.Walking.{Debited, waiting_now, debit-fits, debit-start, debit-off, debit-on, debit-done}
use Rattle.settlement.proofs.booking.debit_marked.Goals as goal
use Rattle.settlement.proofs.booking.debit_marked.Goals.{then-is_on, else-is_on}

pub loop-i-init : goal.loop-i-init
loop-i-init c = debit-start c.args.marks c.args.book.now c.requires.0

-- i is a place of the waiting list, which stays as it was
pub item_at-trade-requires : goal.item_at-trade-requires
item_at-trade-requires c =
    let l = c.loop-i in
    let b = ledger_of c.args.book.now in
    let low : l.i < length b.waiting = omega (arith, c.items-n.ensures) in
    (l.invariant.stored, subst (λ (w : List Item). l.i < length w) (sym (waiting_now b l.book _ l.invariant)) low)

pub debit_trade-requires : goal.debit_trade-requires
debit_trade-requires c =
    let l = c.loop-i in
    let b = ledger_of c.args.book.now in
    let low : l.i < length b.waiting = omega (arith, c.items-n.ensures) in
    let marked = sym c.is_on.ensures ∙ c.if-is_on.true in
    let item = c.item_at-trade.ensures no_item in
    (l.invariant.stored, debit-fits b c.args.marks l.i l.book marked _ item l.invariant low c.requires.1)

pub loop-i-preserved : goal.loop-i-preserved
loop-i-preserved c =
    let l = c.loop-i in
    let b = ledger_of c.args.book.now in
    let marks = c.args.marks in
    let test = sym c.is_on.ensures in
    elim c.if-is_on.branch [
      | then-is_on w ↦
          let on = debit-on b marks l.i l.book (test ∙ w.if-is_on.true) _ (w.item_at-trade.ensures no_item) l.invariant _ w.debit_trade.ensures in
          subst (Debited b marks (l.i + 1)) (sym w.book-is) on
      | else-is_on w ↦
          let off = debit-off b marks l.i l.book l.invariant (test ∙ w.if-is_on.false) in
          subst (Debited b marks (l.i + 1)) (sym w.book-is) off
    ]

pub returns : goal.returns
returns c =
    let l = c.loop-i in
    debit-done (ledger_of c.args.book.now) c.args.marks l.i l.book (omega (arith, c.items-n.ensures)) l.invariant
