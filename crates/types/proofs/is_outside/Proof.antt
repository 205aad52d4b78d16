-- `types::is_outside` meets its contract. Assumes nothing.
use borrow.Author.Rules.{rules}
use Rattle.rulebook.specs.AccountTypes.{is_outside}
use Rattle.types.proofs.Rows.{word_state}
use Rattle.types.proofs.is_outside.Statement.{statement}
use Rattle.types.proofs.is_outside.Tie as tie

pub is_outside_spec : {M : Type 1} → statement M
unfolding is_outside
is_outside_spec =
    tie.close
    (tie.spec (λ c κs. search rules) (λ c κs. search rules)
    (λ c. rw (c.state.ensures, c.before.row.ensures, word_state c.before.before.args.typ)))
