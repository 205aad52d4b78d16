-- `order_tests::wrong_security` meets its contract. Assumes nothing.
use borrow.Author.Rules.{rules}
use Rattle.rulebook.specs.Refusals.{wrong_security}
use Rattle.order_tests.proofs.wrong_security.Statement.{statement}
use Rattle.order_tests.proofs.wrong_security.Tie as tie

pub wrong_security_spec : {M : Type 1} → statement M
unfolding wrong_security
wrong_security_spec = tie.close (tie.spec (λ c κs. search rules) (λ c κs. search rules) (λ c κs. search rules) (λ c. cc))
