-- `waiting_list::push` meets its contract. Assumes nothing.
use mathlib.Core.Path.{◌≡◌, subst, sym}
use mathlib.Core.List.{List, ◌++◌, ◌∷◌, []}
use Prim.Native.Nat.{ℕ, ◌+◌}
use borrow.Author.Rules.{rules}
use lib.ListN.{set}
use Rattle.words.specs.Tables.{rows}
use Rattle.waiting_list.specs.Waiting.{Sized, items_of}
use Rattle.waiting_list.proofs.StoredItems.{pushed}
use Rattle.waiting_list.proofs.push.Statement.{statement}
use Rattle.waiting_list.proofs.push.Tie as tie

returns : tie.Need-returns
returns c =
    let a = c.before.before.before.before.before.before.args in
    let p = c.before.before.before.before.before.before.requires in
    let l : List ℕ = a.items.now in
    subst (λ (w : List ℕ). Sized (set w 0 (rows l + 1)) × (items_of (set w 0 (rows l + 1)) ≡ items_of l ++ (a.item ∷ [])))
    (sym c.before.before.write_row.ensures) (pushed l a.item p.0 p.1)

pub push_spec : {M : Type 1} → statement M
push_spec =
    tie.close
    (tie.spec (λ c. search rules) (λ c κs. search rules) (λ c. search rules) (λ c. search rules) (λ c. search rules) returns)
