-- `book::put_rate` meets its contract. Assumes nothing.
use mathlib.Core.Path.{◌∙◌}
use native.Mathlib.Omega.{arith}
use borrow.Author.Rules.{rules}
use Rattle.book.specs.Meaning.{RATE}
use Rattle.book.proofs.Parts.{part-long, rate_step}
use Rattle.book.proofs.put_rate.Statement.{statement}
use Rattle.book.proofs.put_rate.Tie as tie

returns : tie.Need-returns
returns c =
    let s = c.before.before.before.before.before in
    let p = c.before.before.put_rate_in in
    rate_step s.args.book.now s.requires p.new.words _ (p.auto.words ∙ part-long RATE (omega arith) s.args.book.now s.requires) p.ensures

pub put_rate_spec : {M : Type 1} → statement M
put_rate_spec = tie.close (tie.spec (λ c. search rules) (λ c. search rules) (λ c. search rules) (λ c κs. search rules) (λ c. search rules) returns)
