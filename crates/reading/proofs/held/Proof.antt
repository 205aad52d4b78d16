-- `reading::held` meets its contract. Assumes nothing.
use mathlib.Core.Path.{◌∙◌}
use borrow.Author.Rules.{rules}
use Rattle.reading.proofs.held.Statement.{statement}
use Rattle.reading.proofs.held.Tie as tie

returns : tie.Need-returns
returns c =
    let s = c.before.before in
    (c.held.ensures, c.held.ensures ∙ s.requires.premise.custody s.args.security)

pub held_spec : {M : Type 1} → statement M
held_spec = tie.close (tie.spec (λ c κs. search rules) returns)
