-- `figures::put_counts` meets its contract. Assumes nothing.
use mathlib.Core.Path.{◌∙◌}
use borrow.Author.Rules.{rules}
use Rattle.words.proofs.Places.{whole}
use Rattle.figures.proofs.put_counts.Statement.{statement}
use Rattle.figures.proofs.put_counts.Tie as tie

returns : tie.Need-returns
returns c =
    let s = c.before.before.before.before.before.before in
    c.before.before.write.ensures ∙ whole s.args.values.now _ 6 s.requires

pub put_counts_spec : {M : Type 1} → statement M
put_counts_spec = tie.close (tie.spec (λ c. search rules) (λ c κs. search rules) (λ c. search rules) returns)
