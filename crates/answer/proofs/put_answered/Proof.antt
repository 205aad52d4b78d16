-- `answer::put_answered` meets its contract. Assumes nothing.
use mathlib.Core.Path.{subst}
use borrow.Author.Rules.{rules}
use Rattle.rulebook.specs.Ledger.{put_day, cycle_answered}
use Rattle.rulebook.specs.declared.Day.{Day}
use Rattle.book.specs.Meaning.{ledger_of}
use Rattle.book.specs.Stored.{Means}
use Rattle.answer.proofs.put_answered.Statement.{statement}
use Rattle.answer.proofs.put_answered.Tie as tie

-- the day is read
abbrev read : tie.After-put_day → tie.After-day-day
read c = c.before.before

returns : tie.Need-returns
returns c =
    let put = c.before.before in
    let s = read put in
    subst (λ (d : Day). Means put.put_day.new.book (put_day (cycle_answered d) (ledger_of s.args.book.now))) s.day-day.ensures
    put.put_day.ensures

pub put_answered_spec : {M : Type 1} → statement M
put_answered_spec = tie.close (tie.spec (λ c κs. search rules) (λ c κs. search rules) (λ c. search rules) returns)
