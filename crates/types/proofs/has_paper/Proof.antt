-- `types::has_paper` meets its contract. Assumes nothing.
use borrow.Author.Rules.{rules}
use Rattle.types.proofs.Rows.{word_has_paper}
use Rattle.types.proofs.has_paper.Statement.{statement}
use Rattle.types.proofs.has_paper.Tie as tie

pub has_paper_spec : {M : Type 1} → statement M
has_paper_spec =
    tie.close
    (tie.spec (λ c κs. search rules) (λ c κs. search rules)
    (λ c. rw (c.type_at.ensures, c.before.row.ensures) (word_has_paper c.before.before.args.typ)))
