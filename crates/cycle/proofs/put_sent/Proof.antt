-- `cycle::put_sent` meets its contract. Assumes nothing.
use mathlib.Core.Path.{ap, subst}
use native.Mathlib.Omega.{arith}
use borrow.Author.Rules.{rules}
use Rattle.rulebook.specs.Ledger.{put_day, cycle_sent}
use Rattle.rulebook.specs.declared.Day.{Day}
use Rattle.book.specs.Meaning.{ledger_of}
use Rattle.book.specs.Stored.{Means}
use Rattle.cycle.proofs.put_sent.Statement.{statement}
use Rattle.cycle.proofs.put_sent.Tie as tie

-- the day is read
abbrev read : tie.After-put_day → tie.After-day-day
read c = c.before.before.before

returns : tie.Need-returns
returns c =
    let put = c.before.before in
    let s = (read put) in
    subst (λ (d : Day). Means put.put_day.new.book (put_day (cycle_sent d) (ledger_of s.args.book.now))) (read put).day-day.ensures
    put.put_day.ensures

pub put_sent_spec : {M : Type 1} → statement M
put_sent_spec =
    tie.close
    (tie.spec (λ c κs. search rules)
    (λ c. let d = c in omega (arith, ap (λ (x : Day). x.cycles) d.day-day.ensures, d.requires.1))
    (λ c κs. search rules) (λ c. search rules) returns)
