-- `securities::held` meets its contract. Assumes nothing.
use mathlib.Core.Path.{◌∙◌}
use borrow.Author.Rules.{rules}
use Rattle.securities.proofs.StoredSecurities.{held-value}
use Rattle.securities.proofs.held.Statement.{statement}
use Rattle.securities.proofs.held.Tie as tie

returns : tie.Need-returns
returns c = let a = c.before.before.args in λ h. c.value.ensures ∙ held-value a.securities.now a.code h

pub held_spec : {M : Type 1} → statement M
held_spec = tie.close (tie.spec (λ c κs. search rules) returns)
