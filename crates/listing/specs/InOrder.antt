-- Lists that are made number by number, and texts that are made element by element.
use Rattle.std.specs.Prelude.{ℕ, zero, suc, List, [], ◌∷◌, ◌++◌}

module _ {A : Type 0} where
  -- what each number below n gives, in ascending order
  unfoldable pub each_below : (n : ℕ) → (ℕ → List A) → List A
  each_below zero gives = []
  each_below (suc n) gives = each_below n gives ++ gives n

  -- what is written of each element, one behind the other
  unfoldable pub each_of : (A → List ℕ) → List A → List ℕ
  each_of written [] = []
  each_of written (x ∷ rest) = written x ++ each_of written rest
