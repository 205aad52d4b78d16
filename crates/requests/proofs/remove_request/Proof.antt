-- `requests::remove_request` meets its contract. Assumes nothing.
use borrow.Author.Rules.{rules}
use native.Mathlib.Omega.{arith}
use lib.ListN.{length-set}
use Rattle.requests.proofs.remove_request.Statement.{statement}
use Rattle.requests.proofs.remove_request.Tie as tie

pub remove_request_spec : {M : Type 1} → statement M
remove_request_spec =
    tie.close
    (tie.spec
    (λ c. search rules) (λ c. search rules) (λ c. search rules) (λ c. search rules) (λ c. search rules) (λ c. search rules)
    (λ c. search rules) (λ c. search rules) (λ c. search rules) (λ c. search rules) (λ c. search rules) (λ c. search rules)
    (λ c. search rules) (λ c. search rules) (λ c. search rules) (λ c. search rules) (λ c. simp length-set (omega arith)) (λ c. search rules)
    (λ c. search rules) (λ c. simp length-set (omega arith)) (λ c. search rules) (λ c. search rules) (λ c. search rules))
