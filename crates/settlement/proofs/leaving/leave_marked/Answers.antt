-- `settlement::leaving::leave_marked` meets its contract: an item without a mark goes behind those before it. Assumes nothing.
use Rattle.std.proofs.Common.{◌<◌, length, sym, ◌∙◌, arith}
use Rattle.book.specs.Meaning.{ledger_of}
use Rattle.marks.specs.Marks.{no_item}
use Rattle.settlement.proofs.Staying.{staying-none, staying-off, staying-on, staying-done}
use Rattle.settlement.proofs.leaving.leave_marked.Goals as goal
use Rattle.settlement.proofs.leaving.leave_marked.Goals.{then-not-is_on, else-not-is_on}

pub loop-i-init : goal.loop-i-init
loop-i-init c = staying-none c.args.marks c.args.book.now c.requires.0

pub loop-i-preserved : goal.loop-i-preserved
loop-i-preserved c =
    let l = c.loop-i in
    let b = ledger_of c.args.book.now in
    let marks = c.args.marks in
    let low : l.i < length b.waiting = omega (arith, c.items-n.ensures) in
    let test = sym c.is_on.ensures in
    elim c.if-not-is_on.branch [
      | then-not-is_on w ↦
          let unmarked = test ∙ w.if-not-is_on.true in
          let on = staying-on b marks l.book l.j l.i l.invariant unmarked low _ (w.item_at-item.ensures no_item) _ w.put_item.ensures in
          rw (w.book-is, w.j-is) on
      | else-not-is_on w ↦
          let off = staying-off b marks l.book l.j l.i l.invariant (test ∙ w.if-not-is_on.false) in
          rw (w.book-is, w.j-is) off
    ]

pub returns : goal.returns
returns c =
    let l = c.loop-i in
    staying-done (ledger_of c.args.book.now) c.args.marks l.book l.j l.i l.invariant (omega (arith, c.items-n.ensures)) _ c.keep_first.ensures
