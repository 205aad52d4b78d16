-- `book_items::item_at` meets its contract. Assumes nothing.
use native.Mathlib.Omega.{arith}
use borrow.Author.Rules.{rules}
use Rattle.waiting_list.proofs.StoredItems.{how_many}
use Rattle.book.specs.Meaning.{ITEMS, part, waiting_of}
use Rattle.book_items.proofs.item_at.Statement.{statement}
use Rattle.book_items.proofs.item_at.Tie as tie

item-at-requires : tie.Need-item_at-requires
unfolding waiting_of
item-at-requires c κs = let s = c.before.before in (s.requires.0.parts.items, omega (arith, how_many (part ITEMS s.args.book.now), s.requires.1))

returns : tie.Need-returns
unfolding waiting_of
returns c = c.item_at.ensures

pub item_at_spec : {M : Type 1} → statement M
item_at_spec = tie.close (tie.spec (λ c. search rules) (λ c. search rules) (λ c. search rules) item-at-requires returns)
