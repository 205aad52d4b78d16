-- `book_holdings::accounts` meets its contract. Assumes nothing.
use borrow.Author.Rules.{rules}
use Rattle.book.specs.Meaning.{holdings_of}
use Rattle.book_holdings.proofs.accounts.Statement.{statement}
use Rattle.book_holdings.proofs.accounts.Tie as tie

returns : tie.Need-returns
unfolding holdings_of
returns c = c.rows.ensures

pub accounts_spec : {M : Type 1} → statement M
accounts_spec = tie.close (tie.spec (λ c. search rules) (λ c. search rules) (λ c. search rules) (λ c κs. search rules) returns)
