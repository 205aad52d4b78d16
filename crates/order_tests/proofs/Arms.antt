-- The arms of a `match` on a number. Assumes nothing.
use Prim.Native.Nat.{ℕ}
use mathlib.Core.Path.{◌≡◌, refl, sym, ap, ◌∙◌}
use mathlib.Core.Bool.{false}
use mathlib.Core.Logic.{inl, inr}
use mathlib.Core.List.{List, [], ◌∷◌, map}
use borrow.Author.Tests.{ne_eqb}
use types.Run.{OneOf}
use Rattle.plain.specs.Lists.{◌one_of◌}

-- what holds at each key of an arm, which is one computed test, holds in the arm
pub by_arm : {A : Type 0} (f g : ℕ → A) (keys : List ℕ) → map f keys ≡ map g keys → (x : ℕ) → OneOf keys x → f x ≡ g x
by_arm f g [] e x h = absurd h
by_arm f g (k ∷ []) e x h = let p : f k ≡ g k = cc in ap f h ∙ p ∙ sym (ap g h)
by_arm f g (k ∷ next ∷ keys) e x (inl h) = let p : f k ≡ g k = cc in ap f h ∙ p ∙ sym (ap g h)
by_arm {A} f g (k ∷ next ∷ keys) e x (inr h) =
    let p : ◌≡◌ {A = List A} (map f (next ∷ keys)) (map g (next ∷ keys)) = cc in
    by_arm f g (next ∷ keys) p x h

-- where an arm was passed by
pub not_arm : (keys : List ℕ) (x : ℕ) → (OneOf keys x → ⊥) → (x one_of keys) ≡ false
not_arm [] x h = refl
not_arm (k ∷ []) x h = rw (ne_eqb x k h)
not_arm (k ∷ next ∷ keys) x h = rw (ne_eqb x k (λ e. h (inl e))) (not_arm (next ∷ keys) x (λ r. h (inr r)))
