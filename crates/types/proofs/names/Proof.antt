-- `types::names` meets its contract. Assumes nothing.
use borrow.Author.Rules.{rules}
use Rattle.types.specs.Row.{named_in}
use Rattle.types.proofs.names.Statement.{statement}
use Rattle.types.proofs.names.Tie as tie

pub names_spec : {M : Type 1} → statement M
unfolding named_in
names_spec = tie.close (tie.spec (λ c κs. search rules) (λ c. rw c.type_at.ensures))
