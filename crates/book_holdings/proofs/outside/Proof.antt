-- `book_holdings::outside` meets its contract. Assumes nothing.
use borrow.Author.Rules.{rules}
use Rattle.book.specs.Meaning.{holdings_of}
use Rattle.book_holdings.proofs.outside.Statement.{statement}
use Rattle.book_holdings.proofs.outside.Tie as tie

returns : tie.Need-returns
unfolding holdings_of
returns c = c.outside.ensures (holdings_of c.before.before.before.args.book.now)

pub outside_spec : {M : Type 1} → statement M
outside_spec = tie.close (tie.spec (λ c. search rules) (λ c. search rules) (λ c. search rules) (λ c κs. search rules) returns)
