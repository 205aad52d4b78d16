-- `cycle::send` meets its contract. Assumes nothing.
use mathlib.Core.Path.{sym, ap, subst}
use Prim.Native.Nat.{ℕ, ◌≤◌}
use native.Mathlib.Omega.{arith}
use borrow.Author.Rules.{rules}
use Rattle.rulebook.specs.Ledger.{Ledger}
use Rattle.rulebook.specs.declared.Day.{Day}
use Rattle.book.specs.Meaning.{ledger_of}
use Rattle.marks.specs.Marks.{is_on, count_on}
use Rattle.legs.specs.Ready.{Ready}
use Rattle.legs.proofs.Premises.{premise_ready}
use Rattle.cycle.proofs.Whole.{premise_cycles, same_day, handled}
use Rattle.cycle.proofs.send.Statement.{statement}
use Rattle.cycle.proofs.send.Tie as tie

-- ---- places

abbrev entry : tie.After-select-selection → tie.Start
entry c = c.before.before.before

abbrev counted : tie.After-select-selection → tie.After-items-n
counted c = c.before

abbrev selected : tie.After-fix → tie.After-select-selection
selected c = c.before.before

abbrev fixed : tie.After-put_sent → tie.After-fix
fixed c = c.before.before.before.before

abbrev ledger : tie.After-select-selection → Ledger
ledger c = ledger_of (entry c).args.book.now

ready : (s : tie.Start) → Ready (ledger_of s.args.book.now)
ready s = premise_ready (ledger_of s.args.book.now) s.requires.premise

put-sent-requires : tie.Need-put_sent-requires
put-sent-requires c κs =
    let f = c.before.before.before in
    let n = selected f in
    let e = same_day (ledger n) _ _ n.select-selection.ensures _ f.fix.ensures in
    (f.fix.ensures.stored, omega (arith, ap (λ (d : Day). d.cycles) e, premise_cycles (ledger n) (entry n).requires.premise))

counts-of-requires : tie.Need-counts_of-requires
counts-of-requires c κs =
    let n = selected (fixed c.before.before) in
    let e = (counted n).items-n.ensures in
    let chosen = n.select-selection.result in
    let fewer = subst (λ (k : ℕ). count_on (is_on chosen.fixed) k ≤ count_on (is_on chosen.due) k) (sym e) n.select-selection.ensures.fewer in
    (omega (arith, e, (ready (entry n)).size), fewer)

returns : tie.Need-returns
returns c = λ order area.
    let o = c.before.before.before in
    let f = fixed o in
    let n = selected f in
    let e = (counted n).items-n.ensures in
    handled (ledger n) _ _ n.select-selection.ensures _ f.fix.ensures _ o.put_sent.ensures order area c.counts_of.result
    (rw e at c.counts_of.ensures)

pub send_spec : {M : Type 1} → statement M
send_spec =
    tie.close
    (tie.spec
    (λ c κs. search rules) (λ c κs. let s = c.before.before in (s.requires.stored, ready s))
    (λ c κs. let s = entry c.before in (s.requires.stored, (ready s).size)) put-sent-requires counts-of-requires (λ c. search rules) returns)
