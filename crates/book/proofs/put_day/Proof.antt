-- `book::put_day` meets its contract. Assumes nothing.
use mathlib.Core.Path.{◌∙◌}
use native.Mathlib.Omega.{arith}
use borrow.Author.Rules.{rules}
use Rattle.book.specs.Meaning.{DAY}
use Rattle.book.proofs.Parts.{part-long, day_step}
use Rattle.book.proofs.put_day.Statement.{statement}
use Rattle.book.proofs.put_day.Tie as tie

returns : tie.Need-returns
returns c =
    let s = c.before.before.before.before.before in
    let p = c.before.before.put_day_in in
    day_step s.args.book.now s.requires p.new.words s.args.day (p.auto.words ∙ part-long DAY (omega arith) s.args.book.now s.requires)
    p.ensures.1 p.ensures.0

pub put_day_spec : {M : Type 1} → statement M
put_day_spec = tie.close (tie.spec (λ c. search rules) (λ c. search rules) (λ c. search rules) (λ c κs. search rules) (λ c. search rules) returns)
