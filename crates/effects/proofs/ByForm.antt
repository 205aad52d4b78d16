-- What a form does, read off the table of forms. Assumes nothing.
use Prim.Native.Nat.{ℕ, zero, suc, ◌+◌, ◌≤◌, ◌<◌}
use mathlib.Core.Path.{◌≡◌, refl, subst, sym, ◌∙◌}
use mathlib.Core.Bool.{Bool, true, false}
use mathlib.Core.List.{List}
use native.Mathlib.Omega.{arith}
use borrow.Author.Tests.{eqb-true, eqb-false}
use Rattle.plain.specs.Lists.{◌is◌}
use Rattle.plain.proofs.Lists.{◌and◌}
use Rattle.rulebook.specs.Ledger.{Ledger}
use Rattle.rulebook.specs.Forms.{Outcome, transfer, instruct, forms, row_of, effect}
use Rattle.rulebook.specs.declared.Counts.{Counts}
use Rattle.rulebook.specs.declared.Order.{Order}
use Rattle.rulebook.proofs.ByCall.{effect-at}
use Rattle.book.specs.Handled.{Handled}

-- what holds of a run of numbers holds of each of them
abbrev Run : (ℕ → Type 0) → ℕ → ℕ → Type 0
Run P from zero = Unit {0}
Run P from (suc count) = P from × Run P (suc from) count

in_run : (P : ℕ → Type 0) (from count n : ℕ) → Run P from count → from ≤ n → n < from + count → P n
in_run P from zero n r l u = absurd (omega arith)
in_run P from (suc count) n r l u = go (n is from) refl (λ l. in_run P (suc from) count n r.1 l (omega arith))
  where
    go : (t : Bool) → (n is from) ≡ t → (suc from ≤ n → P n) → P n
    go true e later = subst P (sym (eqb-true n from e)) r.0
    go false e later = let d = eqb-false n from e in later (omega (arith, d))

module _ (b : Ledger) (o : Order) where
  pub transfer-is : 5 ≤ o.form → o.form < 10 → effect b o ≡ transfer b o
  unfolding forms row_of
  transfer-is l u =
      effect-at o.form b o refl ∙ in_run (λ n. (row_of n).effect b o ≡ transfer b o) 5 5 o.form (refl and refl and refl and refl and refl and tt) l u

  pub instruct-is : 12 ≤ o.form → o.form < 14 → effect b o ≡ instruct b o
  unfolding forms row_of
  instruct-is l u = effect-at o.form b o refl ∙ in_run (λ n. (row_of n).effect b o ≡ instruct b o) 12 2 o.form (refl and refl and tt) l u

-- what was handled is the order's effect
pub as_effect :
    {out : Outcome} (b : Ledger) (o : Order) {book before after : List ℕ} {c : Counts} → effect b o ≡ out → Handled out book before after c
    → Handled (effect b o) book before after c
as_effect b o {book} {before} {after} {c} e h = subst (λ (x : Outcome). Handled x book before after c) (sym e) h
