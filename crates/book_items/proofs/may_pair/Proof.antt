-- `book_items::may_pair` meets its contract. Assumes nothing.
use native.Mathlib.Omega.{arith}
use borrow.Author.Rules.{rules}
use Rattle.waiting_list.proofs.StoredItems.{how_many}
use Rattle.book.specs.Meaning.{ITEMS, part, waiting_of}
use Rattle.book_items.proofs.may_pair.Statement.{statement}
use Rattle.book_items.proofs.may_pair.Tie as tie

may-pair-requires : tie.Need-may_pair-requires
unfolding waiting_of
may-pair-requires c κs = let s = c.before.before in (s.requires.0.parts.items, omega (arith, how_many (part ITEMS s.args.book.now), s.requires.1))

returns : tie.Need-returns
unfolding waiting_of
returns c = c.may_pair.ensures

pub may_pair_spec : {M : Type 1} → statement M
may_pair_spec = tie.close (tie.spec (λ c. search rules) (λ c. search rules) (λ c. search rules) may-pair-requires returns)
