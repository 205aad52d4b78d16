-- `request_tests::ends_too_soon` meets its contract. Assumes nothing.
use Rattle.rulebook.specs.Refusals.{ends_too_soon}
use Rattle.request_tests.proofs.ends_too_soon.Statement.{statement}
use Rattle.request_tests.proofs.ends_too_soon.Tie as tie

pub ends_too_soon_spec : {M : Type 1} → statement M
unfolding ends_too_soon
ends_too_soon_spec = tie.close (tie.spec (λ c requests same. rw same))
