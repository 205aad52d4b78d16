-- `types::is_physical` meets its contract. Assumes nothing.
use borrow.Author.Rules.{rules}
use Rattle.types.proofs.Rows.{word_physical}
use Rattle.types.proofs.is_physical.Statement.{statement}
use Rattle.types.proofs.is_physical.Tie as tie

pub is_physical_spec : {M : Type 1} → statement M
is_physical_spec =
    tie.close
    (tie.spec (λ c κs. search rules) (λ c κs. search rules)
    (λ c. rw (c.kind.ensures, c.before.row.ensures) (word_physical c.before.before.args.typ)))
