-- `book_items::is_sent` meets its contract. Assumes nothing.
use native.Mathlib.Omega.{arith}
use borrow.Author.Rules.{rules}
use Rattle.waiting_list.proofs.StoredItems.{how_many}
use Rattle.book.specs.Meaning.{ITEMS, part, waiting_of}
use Rattle.book_items.proofs.is_sent.Statement.{statement}
use Rattle.book_items.proofs.is_sent.Tie as tie

is-sent-requires : tie.Need-is_sent-requires
unfolding waiting_of
is-sent-requires c κs = let s = c.before.before in (s.requires.0.parts.items, omega (arith, how_many (part ITEMS s.args.book.now), s.requires.1))

returns : tie.Need-returns
unfolding waiting_of
returns c = c.is_sent.ensures

pub is_sent_spec : {M : Type 1} → statement M
is_sent_spec = tie.close (tie.spec (λ c. search rules) (λ c. search rules) (λ c. search rules) is-sent-requires returns)
