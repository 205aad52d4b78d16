-- `request_tests::wrong_request` meets its contract. Assumes nothing.
use borrow.Author.Rules.{rules}
use Rattle.rulebook.specs.Refusals.{wrong_request}
use Rattle.request_tests.proofs.wrong_request.Statement.{statement}
use Rattle.request_tests.proofs.wrong_request.Tie as tie

pub wrong_request_spec : {M : Type 1} → statement M
unfolding wrong_request
wrong_request_spec = tie.close (tie.spec (λ c κs. search rules) (λ c requests same. rw (same, c.before.before.ends-ends.ensures)))
