-- `book_items::remove` meets its contract. Assumes nothing.
use native.Mathlib.Omega.{arith}
use borrow.Author.Rules.{rules}
use Rattle.waiting_list.proofs.StoredItems.{how_many}
use Rattle.book.specs.Meaning.{ITEMS, part, waiting_of}
use Rattle.book.proofs.Parts.{items_step}
use Rattle.book_items.proofs.remove.Statement.{statement}
use Rattle.book_items.proofs.remove.Tie as tie

remove-requires : tie.Need-remove-requires
unfolding waiting_of
remove-requires c κs = let s = c.before.before in (s.requires.0.parts.items, omega (arith, how_many (part ITEMS s.args.book.now), s.requires.1))

returns : tie.Need-returns
unfolding waiting_of
returns c =
    let s = c.before.before.before.before.before in let e = c.before.before.remove.ensures in items_step s.args.book.now s.requires.0 _ _ e.0
    e.1

pub remove_spec : {M : Type 1} → statement M
remove_spec = tie.close (tie.spec (λ c. search rules) (λ c. search rules) (λ c. search rules) remove-requires (λ c. search rules) returns)
