-- `answer::confirm_cycle` meets its contract. Assumes nothing.
use mathlib.Core.List.{List}
use mathlib.Core.Path.{sym, subst}
use Prim.Native.Nat.{◌≤◌}
use native.Mathlib.Omega.{arith}
use borrow.Author.Rules.{rules}
use lib.ListN.{length}
use Rattle.rulebook.specs.Ledger.{Ledger}
use Rattle.rulebook.specs.declared.Item.{Item}
use Rattle.book.specs.Meaning.{ledger_of}
use Rattle.legs.specs.Ready.{Ready}
use Rattle.legs.proofs.Premises.{premise_ready}
use Rattle.settlement.proofs.Walking.{waiting_now}
use Rattle.answer.proofs.Whole.{none_short, confirmed}
use Rattle.answer.proofs.confirm_cycle.Statement.{statement}
use Rattle.answer.proofs.confirm_cycle.Tie as tie

-- ---- places

abbrev entry : tie.After-fixed_marks-settled → tie.Start
entry c = c.before.before.before.before

abbrev counted : tie.After-fixed_marks-settled → tie.After-items-n
counted c = c.before

abbrev marked : tie.After-write_marked → tie.After-fixed_marks-settled
marked c = c.before.before

abbrev written : tie.After-book_marked → tie.After-write_marked
written c = c.before.before.before.before

abbrev booked : tie.After-leave_marked → tie.After-book_marked
booked c = c.before.before.before.before

abbrev left : tie.After-put_answered → tie.After-leave_marked
left c = c.before.before.before.before

abbrev ledger : tie.After-fixed_marks-settled → Ledger
ledger c = ledger_of (entry c).args.book.now

ready : (s : tie.Start) → Ready (ledger_of s.args.book.now)
ready s = premise_ready (ledger_of s.args.book.now) s.requires.0.premise

book-marked-requires : tie.Need-book_marked-requires
book-marked-requires c κs =
    let n = marked c.before.before.before in
    let kept = (entry n).requires.0 in
    (kept.stored, ready (entry n), none_short (ledger n) kept.premise n.fixed_marks-settled.result n.fixed_marks-settled.ensures)

leave-marked-requires : tie.Need-leave_marked-requires
leave-marked-requires c κs =
    let k = c.before.before.before in
    let n = marked (written k) in
    let m = k.book_marked.ensures in
    (m.stored, subst (λ (w : List Item). length w ≤ 64) (sym (waiting_now (ledger n) _ _ m)) (ready (entry n)).size)

counts-of-requires : tie.Need-counts_of-requires
counts-of-requires c κs =
    let n = marked (written (booked (left c.before.before))) in
    omega (arith, (counted n).items-n.ensures, (ready (entry n)).size)

returns : tie.Need-returns
returns c =
    let o = c.before.before.before in
    let l = left o in
    let k = booked l in
    let n = marked (written k) in
    let e = (counted n).items-n.ensures in
    confirmed (ledger n) (entry n).requires.0.premise n.fixed_marks-settled.result n.fixed_marks-settled.ensures _ k.book_marked.ensures _
    l.leave_marked.ensures _ o.put_answered.ensures (entry n).args.area.now _ c.counts_of.result (written k).write_marked.ensures
    (rw e at c.counts_of.ensures)

pub confirm_cycle_spec : {M : Type 1} → statement M
confirm_cycle_spec =
    tie.close
    (tie.spec
    (λ c κs. search rules) (λ c κs. let s = c.before.before.before in (s.requires.0.stored, (ready s).size))
    (λ c κs. let s = entry c.before in (s.requires.1, s.requires.0.stored, ready s)) book-marked-requires leave-marked-requires
    (λ c κs. c.leave_marked.ensures.stored) counts-of-requires (λ c. search rules) (λ c. search rules) returns)
