-- `book_items::keep_first` meets its contract. Assumes nothing.
use native.Mathlib.Omega.{arith}
use borrow.Author.Rules.{rules}
use Rattle.waiting_list.proofs.StoredItems.{how_many}
use Rattle.book.specs.Meaning.{ITEMS, part, waiting_of}
use Rattle.book.proofs.Parts.{items_step}
use Rattle.book_items.proofs.keep_first.Statement.{statement}
use Rattle.book_items.proofs.keep_first.Tie as tie

keep-first-requires : tie.Need-keep_first-requires
unfolding waiting_of
keep-first-requires c κs = let s = c.before.before in (s.requires.0.parts.items, omega (arith, how_many (part ITEMS s.args.book.now), s.requires.1))

returns : tie.Need-returns
unfolding waiting_of
returns c =
    let s = c.before.before.before.before.before in let e = c.before.before.keep_first.ensures in items_step s.args.book.now s.requires.0 _ _
    e.0 e.1

pub keep_first_spec : {M : Type 1} → statement M
keep_first_spec = tie.close (tie.spec (λ c. search rules) (λ c. search rules) (λ c. search rules) keep-first-requires (λ c. search rules) returns)
