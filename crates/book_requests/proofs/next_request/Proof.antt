-- `book_requests::next_request` meets its contract. Assumes nothing.
use borrow.Author.Rules.{rules}
use Rattle.book.specs.Meaning.{requests_of}
use Rattle.book_requests.proofs.next_request.Statement.{statement}
use Rattle.book_requests.proofs.next_request.Tie as tie

returns : tie.Need-returns
unfolding requests_of
returns c = c.next_request.ensures

pub next_request_spec : {M : Type 1} → statement M
next_request_spec = tie.close (tie.spec (λ c. search rules) (λ c. search rules) (λ c. search rules) (λ c κs. search rules) returns)
