-- `book_holdings::balance` meets its contract. Assumes nothing.
use borrow.Author.Rules.{rules}
use Rattle.book.specs.Meaning.{holdings_of}
use Rattle.book_holdings.proofs.balance.Statement.{statement}
use Rattle.book_holdings.proofs.balance.Tie as tie

returns : tie.Need-returns
unfolding holdings_of
returns c = c.balance.ensures

pub balance_spec : {M : Type 1} → statement M
balance_spec = tie.close (tie.spec (λ c. search rules) (λ c. search rules) (λ c. search rules) (λ c κs. search rules) returns)
