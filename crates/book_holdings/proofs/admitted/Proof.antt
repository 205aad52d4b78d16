-- `book_holdings::admitted` meets its contract. Assumes nothing.
use borrow.Author.Rules.{rules}
use Rattle.book.specs.Meaning.{holdings_of}
use Rattle.book_holdings.proofs.admitted.Statement.{statement}
use Rattle.book_holdings.proofs.admitted.Tie as tie

returns : tie.Need-returns
unfolding holdings_of
returns c = c.admitted.ensures (holdings_of c.before.before.before.args.book.now)

pub admitted_spec : {M : Type 1} → statement M
admitted_spec = tie.close (tie.spec (λ c. search rules) (λ c. search rules) (λ c. search rules) (λ c κs. search rules) returns)
