-- `slots::put_slots` meets its contract. Assumes nothing.
use borrow.Author.Rules.{rules}
use native.Mathlib.Omega.{arith}
use lib.ListN.{length-set}
use Rattle.slots.proofs.put_slots.Statement.{statement}
use Rattle.slots.proofs.put_slots.Tie as tie

pub put_slots_spec : {M : Type 1} → statement M
put_slots_spec =
    tie.close
    (tie.spec (λ c. search rules) (λ c. search rules) (λ c. search rules) (λ c. search rules)
    (λ c. simp length-set (omega arith)) (λ c. search rules) (λ c. search rules))
