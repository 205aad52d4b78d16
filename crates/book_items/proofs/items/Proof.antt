-- `book_items::items` meets its contract. Assumes nothing.
use mathlib.Core.Path.{sym, ◌∙◌}
use borrow.Author.Rules.{rules}
use Rattle.waiting_list.proofs.StoredItems.{how_many}
use Rattle.book.specs.Meaning.{ITEMS, part, waiting_of}
use Rattle.book_items.proofs.items.Statement.{statement}
use Rattle.book_items.proofs.items.Tie as tie

returns : tie.Need-returns
unfolding waiting_of
returns c = c.rows.ensures ∙ sym (how_many (part ITEMS c.before.before.before.args.book.now))

pub items_spec : {M : Type 1} → statement M
items_spec = tie.close (tie.spec (λ c. search rules) (λ c. search rules) (λ c. search rules) (λ c κs. search rules) returns)
