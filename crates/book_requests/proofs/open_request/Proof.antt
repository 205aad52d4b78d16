-- `book_requests::open_request` meets its contract. Assumes nothing.
use borrow.Author.Rules.{rules}
use Rattle.book.specs.Meaning.{requests_of}
use Rattle.book.proofs.Parts.{requests_step}
use Rattle.book_requests.proofs.open_request.Statement.{statement}
use Rattle.book_requests.proofs.open_request.Tie as tie

open-request-requires : tie.Need-open_request-requires
unfolding requests_of
open-request-requires c κs = let s = c.before.before in (s.requires.0.parts.requests, s.requires.1, s.requires.2, s.requires.3, s.requires.4)

returns : tie.Need-returns
unfolding requests_of
returns c =
    let s = c.before.before.before.before.before in
    let e = c.before.before.open_request.ensures in
    requests_step s.args.book.now s.requires.0 _ _ e.0 e.1

pub open_request_spec : {M : Type 1} → statement M
open_request_spec = tie.close (tie.spec (λ c. search rules) (λ c. search rules) (λ c. search rules) open-request-requires (λ c. search rules) returns)
