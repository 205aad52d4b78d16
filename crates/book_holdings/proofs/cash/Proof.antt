-- `book_holdings::cash` meets its contract. Assumes nothing.
use borrow.Author.Rules.{rules}
use Rattle.book.specs.Meaning.{holdings_of}
use Rattle.book_holdings.proofs.cash.Statement.{statement}
use Rattle.book_holdings.proofs.cash.Tie as tie

returns : tie.Need-returns
unfolding holdings_of
returns c = c.amount.ensures

pub cash_spec : {M : Type 1} → statement M
cash_spec = tie.close (tie.spec (λ c. search rules) (λ c. search rules) (λ c. search rules) (λ c κs. search rules) returns)
