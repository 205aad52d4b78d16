-- What is left of one word that is written. Assumes nothing.
use Prim.Native.Nat.{ℕ}
use mathlib.Core.Path.{◌≡◌, ap}
use mathlib.Core.List.{List, [], ◌∷◌}
use native.Mathlib.Omega.{arith}
use lib.ListN.{length, set}

-- one word that is written
pub one_word : (xs : List ℕ) (v w : ℕ) → length xs ≡ 1 → v ≡ w → set xs 0 v ≡ w ∷ []
one_word [] v w l e = absurd (omega (arith, l))
one_word (x ∷ []) v w l e = ap (λ (n : ℕ). n ∷ []) e
one_word (x ∷ y ∷ xs) v w l e = absurd (omega (arith, l))
