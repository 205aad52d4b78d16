-- `book_items::may_bear` meets its contract. Assumes nothing.
use native.Mathlib.Omega.{arith}
use borrow.Author.Rules.{rules}
use Rattle.waiting_list.proofs.StoredItems.{how_many}
use Rattle.book.specs.Meaning.{ITEMS, part, waiting_of}
use Rattle.book_items.proofs.may_bear.Statement.{statement}
use Rattle.book_items.proofs.may_bear.Tie as tie

may-bear-requires : tie.Need-may_bear-requires
unfolding waiting_of
may-bear-requires c κs = let s = c.before.before in (s.requires.0.parts.items, omega (arith, how_many (part ITEMS s.args.book.now), s.requires.1))

returns : tie.Need-returns
unfolding waiting_of
returns c = c.may_bear.ensures

pub may_bear_spec : {M : Type 1} → statement M
may_bear_spec = tie.close (tie.spec (λ c. search rules) (λ c. search rules) (λ c. search rules) may-bear-requires returns)
