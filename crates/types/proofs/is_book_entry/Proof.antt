-- `types::is_book_entry` meets its contract. Assumes nothing.
use borrow.Author.Rules.{rules}
use Rattle.types.proofs.Rows.{word_entry}
use Rattle.types.proofs.is_book_entry.Statement.{statement}
use Rattle.types.proofs.is_book_entry.Tie as tie

pub is_book_entry_spec : {M : Type 1} → statement M
is_book_entry_spec =
    tie.close
    (tie.spec (λ c κs. search rules) (λ c κs. search rules)
    (λ c. rw (c.kind.ensures, c.before.row.ensures) (word_entry c.before.before.args.typ)))
