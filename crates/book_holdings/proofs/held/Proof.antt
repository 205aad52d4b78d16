-- `book_holdings::held` meets its contract. Assumes nothing.
use borrow.Author.Rules.{rules}
use Rattle.book.specs.Meaning.{holdings_of}
use Rattle.book_holdings.proofs.held.Statement.{statement}
use Rattle.book_holdings.proofs.held.Tie as tie

returns : tie.Need-returns
unfolding holdings_of
returns c = c.held.ensures (holdings_of c.before.before.before.args.book.now)

pub held_spec : {M : Type 1} → statement M
held_spec = tie.close (tie.spec (λ c. search rules) (λ c. search rules) (λ c. search rules) (λ c κs. search rules) returns)
