-- `book_requests::request` meets its contract. Assumes nothing.
use borrow.Author.Rules.{rules}
use Rattle.book.specs.Meaning.{requests_of}
use Rattle.book_requests.proofs.request.Statement.{statement}
use Rattle.book_requests.proofs.request.Tie as tie

returns : tie.Need-returns
unfolding requests_of
returns c = c.request.ensures

pub request_spec : {M : Type 1} → statement M
request_spec = tie.close (tie.spec (λ c. search rules) (λ c. search rules) (λ c. search rules) (λ c κs. search rules) returns)
