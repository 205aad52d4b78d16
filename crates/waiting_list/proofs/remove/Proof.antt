-- `waiting_list::remove` meets its contract. Assumes nothing.
use mathlib.Core.Path.{◌≡◌, subst, sym}
use mathlib.Core.List.{List}
use Prim.Native.Nat.{ℕ, ◌-◌}
use borrow.Author.Rules.{rules}
use lib.ListN.{set}
use Rattle.words.specs.Places.{remove_at}
use Rattle.words.specs.Tables.{rows}
use Rattle.waiting_list.specs.Waiting.{Sized, items_of}
use Rattle.waiting_list.proofs.StoredItems.{removed}
use Rattle.waiting_list.proofs.remove.Statement.{statement}
use Rattle.waiting_list.proofs.remove.Tie as tie

returns : tie.Need-returns
returns c =
    let a = c.before.before.before.before.before.before.args in
    let p = c.before.before.before.before.before.before.requires in
    let l : List ℕ = a.items.now in
    subst (λ (w : List ℕ). Sized (set w 0 (rows l - 1)) × (items_of (set w 0 (rows l - 1)) ≡ remove_at a.i (items_of l)))
    (sym c.before.before.shift_down.ensures) (removed l p.0 a.i p.1)

pub remove_spec : {M : Type 1} → statement M
remove_spec =
    tie.close
    (tie.spec (λ c. search rules) (λ c. search rules) (λ c. search rules) (λ c. search rules) (λ c. search rules) (λ c. search rules) (λ c κs. search rules)
    (λ c. search rules) (λ c. search rules) returns)
