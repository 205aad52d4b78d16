-- `book_holdings::next_account` meets its contract. Assumes nothing.
use borrow.Author.Rules.{rules}
use Rattle.book.specs.Meaning.{holdings_of}
use Rattle.book_holdings.proofs.next_account.Statement.{statement}
use Rattle.book_holdings.proofs.next_account.Tie as tie

returns : tie.Need-returns
unfolding holdings_of
returns c = c.next_account.ensures

pub next_account_spec : {M : Type 1} → statement M
next_account_spec = tie.close (tie.spec (λ c. search rules) (λ c. search rules) (λ c. search rules) (λ c κs. search rules) returns)
