-- What a search finds, place by place, and what is known of what it found. Assumes nothing.
use Rattle.std.specs.List.{find, range_with_len}
use Rattle.words.specs.Places.{first_from}
use Rattle.words.proofs.Places.{found_in_range}
use Rattle.std.specs.Prelude.{Option, option_map, if◌then◌else◌, is_some, Some}
use Prim.Native.Nat.{ℕ, suc, ◌+◌, ◌<◌}
use mathlib.Core.Path.{◌≡◌, refl, sym, ap, ◌∙◌}
use mathlib.Core.Bool.{Bool, true, false, not, ◌||◌}
use mathlib.Core.List.{List, [], ◌∷◌}
use native.Mathlib.Omega.{arith}
use lib.ListN.{length, get_or}
use Rattle.plain.specs.Lists.{some}
use Rattle.search.specs.Place.{place_from, place_in}

-- ---- the library's search of the places

first_as_place :
    {A : Type 0} (test : A → Bool) (p : ℕ → Bool) (i : ℕ) (l : List A) (d : A) → ((k : ℕ) → k < length l → p (i + k) ≡ test (get_or l k d))
    → first_from p i (length l) ≡ place_from test i l
unfolding first_from place_from
first_as_place test p i [] d h = refl
first_as_place test p i (x ∷ rest) d h =
    let a : i + 0 ≡ i = omega arith in
    let here : p i ≡ test x = ap p (sym a) ∙ h 0 (omega arith) in
    let next : (k : ℕ) → k < length rest → p (suc i + k) ≡ test (get_or rest k d) =
    λ k l. let e : suc i + k ≡ i + suc k = omega arith in ap p e ∙ h (suc k) (omega arith) in
    rw (here, first_as_place test p (suc i) rest d next)

-- what `(0..n).find` has found, as `find_from_yields_List` tells it, where n is how many there are
pub found_in_list :
    {A : Type 0} (test : A → Bool) (l : List A) (d : A) (n : ℕ) → n ≡ length l → (found : Option ℕ)
    → option_map (λ (k : ℕ). k) found ≡ find (λ i. test (get_or l i d)) (range_with_len 0 n) → found ≡ place_in test l
found_in_list test l d n size found e =
    found_in_range (λ i. test (get_or l i d)) 0 n found e
    ∙ ap (first_from (λ i. test (get_or l i d)) 0) size
    ∙ first_as_place test (λ i. test (get_or l i d)) 0 l d (λ k h. let z : 0 + k ≡ k = omega arith in ap (λ (i : ℕ). test (get_or l i d)) z)

pub not-true : (a : Bool) → not a ≡ true → a ≡ false
not-true true e = sym e
not-true false e = refl

-- ---- what was found

-- something is found exactly where some element passes
pub found_some : {A : Type 0} (test : A → Bool) (i : ℕ) (l : List A) → is_some (place_from test i l) ≡ some test l
unfolding place_from
found_some test i [] = refl
found_some test i (x ∷ rest) = go (test x) (found_some test (suc i) rest)
  where
    go :
        (t : Bool) → is_some (place_from test (suc i) rest) ≡ some test rest
        → is_some (if t then Some i else place_from test (suc i) rest) ≡ (t || some test rest)
    go true e = refl
    go false e = e

-- what is found at a place is in the list and passes
pub record Passes {A : Type 0} (test : A → Bool) (l : List A) (i : ℕ) : Type 0 where
  pub inside : i < length l
  pub passes : (d : A) → test (get_or l i d) ≡ true

passes-from : {A : Type 0} (test : A → Bool) (k : ℕ) (l : List A) (j : ℕ) → place_from test k l ≡ Some j → (i : ℕ) × ((j ≡ k + i) × Passes test l i)
unfolding place_from
passes-from test k [] j e = absurd (let z : ◌≡◌ {A = ℕ} 0 1 = cc in omega arith)
passes-from test k (x ∷ rest) j e = go (test x) refl e (passes-from test (suc k) rest j)
  where
    go :
        (t : Bool) → test x ≡ t → (if t then Some k else place_from test (suc k) rest) ≡ Some j
        → (place_from test (suc k) rest ≡ Some j → (i : ℕ) × ((j ≡ suc k + i) × Passes test rest i)) → (i : ℕ) × ((j ≡ k + i) × Passes test (x ∷ rest) i)
    go true p q later = (0, (let z : k ≡ j = cc in omega arith, record { inside = omega arith; passes = λ d. p }))
    go false p q later =
        let f = later q in
        (suc f.0, (omega (arith, f.1.0), record { inside = omega (arith, f.1.1.inside); passes = f.1.1.passes }))

pub found-passes : {A : Type 0} (test : A → Bool) (l : List A) (j : ℕ) → place_in test l ≡ Some j → Passes test l j
found-passes test l j e =
    let f = passes-from test 0 l j e in
    let k : f.0 ≡ j = omega (arith, f.1.0) in
    rw k at f.1.1
