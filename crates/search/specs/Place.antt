-- Where the first element of a list stands that passes a test.
use Rattle.std.specs.Prelude.{if◌then◌else◌, ℕ, suc, Bool, List, [], ◌∷◌, Option, Some, None}

-- the place of the first that passes, counted from i
unfoldable pub place_from : {A : Type 0} → (A → Bool) → ℕ → List A → Option ℕ
place_from test i [] = None
place_from test i (x ∷ rest) = let later = place_from test (suc i) rest in if test x then Some i else later

abbrev pub place_in : {A : Type 0} → (A → Bool) → List A → Option ℕ
place_in test l = place_from test 0 l
