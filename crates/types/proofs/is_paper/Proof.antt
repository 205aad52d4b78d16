-- `types::is_paper` meets its contract. Assumes nothing.
use borrow.Author.Rules.{rules}
use Rattle.types.proofs.Rows.{word_paper}
use Rattle.types.proofs.is_paper.Statement.{statement}
use Rattle.types.proofs.is_paper.Tie as tie

pub is_paper_spec : {M : Type 1} → statement M
is_paper_spec = tie.close (tie.spec (λ c κs. search rules) (λ c. rw c.row.ensures (word_paper c.before.args.typ)))
