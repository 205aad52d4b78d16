-- `waiting_list::item_at` meets its contract: the part lent is the row. Assumes nothing.
use mathlib.Core.Path.{◌≡◌, ap, ◌∙◌}
use Prim.Native.Nat.{ℕ, ◌+◌, ◌-◌, ◌*◌}
use borrow.Author.Rules.{rules}
use native.Mathlib.Omega.{arith}
use lib.ListN.{take, drop}
use Rattle.waiting_list.specs.Waiting.{item_of}
use Rattle.waiting_list.proofs.StoredItems.{item-there}
use Rattle.waiting_list.proofs.item_at.Statement.{statement}
use Rattle.waiting_list.proofs.item_at.Tie as tie

returns : tie.Need-returns
returns c =
    let a = c.before.before.before.args in
    let n : a.i * 16 + 1 + 16 - (a.i * 16 + 1) ≡ 16 = omega arith in
    λ d. c.item_of.ensures ∙ ap (λ (k : ℕ). item_of (take k (drop (a.i * 16 + 1) a.items.now))) n
    ∙ item-there a.items.now a.i d c.before.before.before.requires.1

pub item_at_spec : {M : Type 1} → statement M
item_at_spec =
    tie.close
    (tie.spec (λ c. search rules) (λ c. search rules) (λ c. search rules) (λ c. search rules) (λ c. search rules) (λ c. search rules) (λ c. search rules)
    (λ c κs. search rules) returns)
