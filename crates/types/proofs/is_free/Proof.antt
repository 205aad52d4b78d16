-- `types::is_free` meets its contract. Assumes nothing.
use borrow.Author.Rules.{rules}
use Rattle.rulebook.specs.AccountTypes.{is_free}
use Rattle.types.proofs.Rows.{word_state}
use Rattle.types.proofs.is_free.Statement.{statement}
use Rattle.types.proofs.is_free.Tie as tie

pub is_free_spec : {M : Type 1} → statement M
unfolding is_free
is_free_spec =
    tie.close
    (tie.spec (λ c κs. search rules) (λ c κs. search rules)
    (λ c. rw (c.state.ensures, c.before.row.ensures, word_state c.before.before.args.typ)))
