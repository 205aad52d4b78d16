-- `slots::put_link` meets its contract. Assumes nothing.
use native.Mathlib.Omega.{arith}
use borrow.Author.Rules.{rules}
use lib.ListN.{length-set}
use Rattle.slots.proofs.put_link.Statement.{statement}
use Rattle.slots.proofs.put_link.Tie as tie

pub put_link_spec : {M : Type 1} → statement M
put_link_spec =
    tie.close
    (tie.spec (λ c. search rules) (λ c. search rules) (λ c. search rules) (λ c. search rules) (λ c. search rules) (λ c. search rules) (λ c. search rules)
    (λ c. let s = c.before in rw length-set (omega (arith, s.requires))) (λ c. search rules) (λ c. search rules))
