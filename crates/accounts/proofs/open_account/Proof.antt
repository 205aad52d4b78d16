-- `accounts::open_account` meets its contract. Assumes nothing.
use mathlib.Core.Path.{ap}
use Prim.Native.Nat.{ℕ}
use borrow.Author.Rules.{rules}
use native.Mathlib.Omega.{arith}
use lib.ListN.{length-set}
use Rattle.accounts.specs.Map.{opened}
use Rattle.accounts.proofs.open_account.Statement.{statement}
use Rattle.accounts.proofs.open_account.Tie as tie

returns : tie.Need-returns
returns c = let a = c.before.before.before.args in ap (λ (k : ℕ). opened a.accounts.now k a.balance.0) c.before.key_of-key.ensures

pub open_account_spec : {M : Type 1} → statement M
open_account_spec =
    tie.close
    (tie.spec (λ c κs. search rules) (λ c. search rules) (λ c. search rules) (λ c. search rules) (λ c. search rules) (λ c. search rules) (λ c. search rules)
    (λ c. simp length-set (omega arith)) (λ c. search rules) (λ c. search rules) (λ c. search rules) returns)
