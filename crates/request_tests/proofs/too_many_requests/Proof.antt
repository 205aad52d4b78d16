-- `request_tests::too_many_requests` meets its contract. Assumes nothing.
use borrow.Author.Rules.{rules}
use Rattle.rulebook.specs.Refusals.{too_many_requests}
use Rattle.request_tests.proofs.too_many_requests.Statement.{statement}
use Rattle.request_tests.proofs.too_many_requests.Tie as tie

pub too_many_requests_spec : {M : Type 1} → statement M
unfolding too_many_requests
too_many_requests_spec = tie.close (tie.spec (λ c κs. search rules) (λ c. rw c.requests.ensures))
