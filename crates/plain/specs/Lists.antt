-- Plain words for tests on numbers, a few operations on lists, and sums.
use Rattle.std.specs.Prelude.{ℕ, zero, suc, ◌+◌, Bool, true, false, not, ◌||◌, ◌&&◌, List, [], ◌∷◌, leb, ltb, eqb, if◌then◌else◌}

infix 50 ◌is◌ ◌is_not◌ ◌below◌ ◌at_most◌ ◌one_of◌
abbrev pub ◌is◌ : ℕ → ℕ → Bool
◌is◌ m n = eqb m n

abbrev pub ◌is_not◌ : ℕ → ℕ → Bool
◌is_not◌ m n = not (eqb m n)

abbrev pub ◌below◌ : ℕ → ℕ → Bool
◌below◌ m n = ltb m n

abbrev pub ◌at_most◌ : ℕ → ℕ → Bool
◌at_most◌ m n = leb m n

-- from a to b, both ends inside
abbrev pub within : ℕ → ℕ → ℕ → Bool
within a b n = a at_most n && n at_most b

-- one of the numbers listed
abbrev pub ◌one_of◌ : ℕ → List ℕ → Bool
◌one_of◌ n [] = false
◌one_of◌ n (m ∷ rest) = n is m || n one_of rest

module _ {A : Type 0} where
  -- the sum of a figure over a list
  abbrev pub total : (A → ℕ) → List A → ℕ
  total figure [] = 0
  total figure (x ∷ rest) = figure x + total figure rest

  -- some element passes the test
  abbrev pub some : (A → Bool) → List A → Bool
  some test [] = false
  some test (x ∷ rest) = test x || some test rest

  -- the elements that pass the test, in order
  abbrev pub keep : (A → Bool) → List A → List A
  keep test [] = []
  keep test (x ∷ rest) = let kept = keep test rest in if test x then x ∷ kept else kept

-- each element of a list is such
abbrev pub Each : {A : Type 0} → (A → Type 0) → List A → Type 0
Each P [] = Unit {0}
Each P (x ∷ rest) = P x × Each P rest

-- the sum of a figure over the numbers below n
unfoldable pub sum_below : ℕ → (ℕ → ℕ) → ℕ
sum_below zero figure = 0
sum_below (suc n) figure = sum_below n figure + figure n

-- the first number of a checking order whose test applies; 0 where none does
abbrev pub first : List (ℕ × Bool) → ℕ
first [] = 0
first (check ∷ rest) = let later = first rest in if check.1 then check.0 else later
