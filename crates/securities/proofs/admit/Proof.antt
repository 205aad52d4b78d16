-- `securities::admit` meets its contract. Assumes nothing.
use borrow.Author.Rules.{rules}
use native.Mathlib.Omega.{arith}
use lib.ListN.{length-set}
use Rattle.securities.proofs.Admission.{admits}
use Rattle.securities.proofs.admit.Statement.{statement}
use Rattle.securities.proofs.admit.Tie as tie

returns : tie.Need-returns
returns c = let s = c.before in admits s.args.securities.now s.requires.0 s.args.code s.requires.1 s.requires.2 s.args.quantity.0

pub admit_spec : {M : Type 1} → statement M
admit_spec =
    tie.close
    (tie.spec (λ c. search rules) (λ c. search rules) (λ c. search rules) (λ c. search rules) (λ c. search rules) (λ c. search rules)
    (λ c. simp length-set (omega arith)) (λ c. search rules) (λ c. search rules) (λ c. simp length-set (omega arith)) (λ c. search rules)
    (λ c. search rules) (λ c. simp length-set (omega arith)) (λ c. search rules) (λ c. simp length-set (omega arith)) (λ c. search rules) returns)
