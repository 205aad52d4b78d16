-- `book_requests::requests` meets its contract. Assumes nothing.
use borrow.Author.Rules.{rules}
use Rattle.book.specs.Meaning.{requests_of}
use Rattle.book_requests.proofs.requests.Statement.{statement}
use Rattle.book_requests.proofs.requests.Tie as tie

returns : tie.Need-returns
unfolding requests_of
returns c = c.rows.ensures

pub requests_spec : {M : Type 1} → statement M
requests_spec = tie.close (tie.spec (λ c. search rules) (λ c. search rules) (λ c. search rules) (λ c κs. search rules) returns)
