-- `settlement::postings::write_marked` meets its contract: a marked trade's rows go behind those before it. Assumes nothing.
use Rattle.std.proofs.Common.{◌≡◌, ℕ, ◌+◌, ◌-◌, ◌≤◌, ◌<◌, List, length, take, drop, sym, subst, ◌∙◌, arith, length-drop}
use lib.Seq.{length-take-le}
use Rattle.rows.specs.Widths.{TradeInRange}
use Rattle.book.specs.Meaning.{ledger_of}
use Rattle.marks.specs.Marks.{no_item}
use Rattle.settlement.proofs.Writing.{trade-fits, written_none, written-fits, written-long, written-off, written_on, written-done}
use Rattle.settlement.proofs.postings.write_marked.Goals as goal
use Rattle.settlement.proofs.postings.write_marked.Goals.{then-is_on, else-is_on}

pub loop-i-init : goal.loop-i-init
loop-i-init c = written_none (ledger_of c.args.book.now) c.args.marks c.args.area.now

part-long : (xs : List ℕ) (at n : ℕ) → length xs ≡ n → at + 64 ≤ n → 64 ≤ length (take (length xs - at) (drop at xs))
part-long xs at n e l = simp (length-take-le (length xs - at) (drop at xs) (simp length-drop (omega arith))) (omega arith)

pub write_trade-requires : goal.write_trade-requires
write_trade-requires c =
    let l = c.loop-i in
    let b = ledger_of c.args.book.now in
    let low : l.i < length b.waiting = omega (arith, c.items-n.ensures) in
    let room = written-fits b c.args.marks c.args.area.now l.area l.at l.i l.invariant (omega (arith, low, c.requires.2.size)) c.requires.0 in
    let long = written-long b c.args.marks c.args.area.now l.area l.at l.i l.invariant in (
      part-long l.area l.at _ long room,
      subst TradeInRange (sym (c.item_at-trade.ensures no_item)) (trade-fits _ (c.requires.2.bookable l.i low)),
    )

pub loop-i-preserved : goal.loop-i-preserved
loop-i-preserved c =
    let l = c.loop-i in
    let b = ledger_of c.args.book.now in
    let marks = c.args.marks in
    let area = c.args.area.now in
    let low : l.i < length b.waiting = omega (arith, c.items-n.ensures) in
    let room = written-fits b marks area l.area l.at l.i l.invariant (omega (arith, low, c.requires.2.size)) c.requires.0 in
    let test = sym c.is_on.ensures in
    elim c.if-is_on.branch [
      | then-is_on w ↦
          let on =
          written_on b marks area l.area l.at l.i l.invariant (test ∙ w.if-is_on.true) room _ (w.item_at-trade.ensures no_item) _ w.write_trade.ensures
          in
          rw (w.area-is, w.at-is) on
      | else-is_on w ↦
          let off = written-off b marks area l.area l.at l.i l.invariant (test ∙ w.if-is_on.false) in rw (w.area-is, w.at-is) off
    ]

pub returns : goal.returns
returns c =
    let l = c.loop-i in
    written-done (ledger_of c.args.book.now) c.args.marks c.args.area.now l.area l.at l.i l.invariant (omega (arith, c.items-n.ensures))
