-- `marks::is_on` meets its contract. Assumes nothing.
use borrow.Author.Rules.{rules}
use Rattle.marks.specs.Marks.{is_on}
use Rattle.marks.proofs.is_on.Statement.{statement}
use Rattle.marks.proofs.is_on.Tie as tie

returns : tie.Need-returns
unfolding is_on
returns c = search rules

pub is_on_spec : {M : Type 1} → statement M
is_on_spec = tie.close (tie.spec (λ c. search rules) (λ c. search rules) returns)
