-- `securities::outside` meets its contract. Assumes nothing.
use mathlib.Core.Path.{◌∙◌}
use borrow.Author.Rules.{rules}
use Rattle.securities.proofs.StoredSecurities.{outside-value}
use Rattle.securities.proofs.outside.Statement.{statement}
use Rattle.securities.proofs.outside.Tie as tie

returns : tie.Need-returns
returns c = let a = c.before.before.args in λ h. c.value.ensures ∙ outside-value a.securities.now a.code h

pub outside_spec : {M : Type 1} → statement M
outside_spec = tie.close (tie.spec (λ c κs. search rules) returns)
