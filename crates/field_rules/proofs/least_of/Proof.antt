-- `field_rules::least_of` meets its contract. Assumes nothing.
use borrow.Author.Rules.{rules}
use Rattle.field_rules.proofs.least_of.Statement.{statement}
use Rattle.field_rules.proofs.least_of.Tie as tie

returns : tie.Need-returns-then-is_in
returns c = simp (← c.before.is_in.ensures, c.if-is_in.true)

returns-2 : tie.Need-returns-else-is_in
returns-2 c = simp (← c.before.is_in.ensures, c.if-is_in.false)

pub least_of_spec : {M : Type 1} → statement M
least_of_spec = tie.close (tie.spec (λ c κs. search rules) returns returns-2)
