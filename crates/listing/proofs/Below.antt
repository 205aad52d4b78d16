-- Lists and sums over the numbers below n: numbers that give nothing, and numbers of two digits. Assumes nothing.
use Prim.Native.Nat.{ℕ, zero, suc, ◌+◌, ◌-◌, ◌*◌, ◌≤◌, ◌<◌}
use native.Mathlib.Numerals.{add-one}
use native.Mathlib.Omega.{arith}
use mathlib.Core.List.{List, [], ◌∷◌, ◌++◌, append_assoc, append-nil}
use mathlib.Core.Path.{◌≡◌, refl, sym, ap, ap₂, ◌∙◌}
use lib.ListN.{length, get_or, take}
use lib.Seq.{take-suc}
use Rattle.plain.specs.Lists.{sum_below}
use Rattle.listing.specs.InOrder.{each_below, each_of}

module _ {A : Type 0} where
  pub each_next : (n : ℕ) (f : ℕ → List A) → each_below (n + 1) f ≡ each_below n f ++ f n
  unfolding each_below
  each_next n f = rw add-one

  pub each_same : (n : ℕ) (f g : ℕ → List A) → ((k : ℕ) → k < n → f k ≡ g k) → each_below n f ≡ each_below n g
  unfolding each_below
  each_same zero f g e = refl
  each_same (suc n) f g e = ap₂ ◌++◌ (each_same n f g (λ k l. e k (omega arith))) (e n (omega arith))

  -- numbers that follow
  each_add : (m n : ℕ) (f : ℕ → List A) → each_below (m + n) f ≡ each_below m f ++ each_below n (λ j. f (m + j))
  unfolding each_below
  each_add m zero f = let z : m + 0 ≡ m = omega arith in rw z (sym (append-nil (each_below m f)))
  each_add m (suc n) f =
      let s : m + suc n ≡ suc (m + n) = omega arith in
      ap (λ (k : ℕ). each_below k f) s ∙ ap (λ (l : List A). l ++ f (m + n)) (each_add m n f)
      ∙ append_assoc (each_below m f) (each_below n (λ j. f (m + j))) (f (m + n))

  -- numbers that give nothing
  none_of : (n : ℕ) (f : ℕ → List A) → ((k : ℕ) → k < n → f k ≡ []) → each_below n f ≡ []
  unfolding each_below
  none_of zero f e = refl
  none_of (suc n) f e = rw (none_of n f (λ k l. e k (omega arith)), e n (omega arith))

  pub each_gap : (m n : ℕ) (f : ℕ → List A) → m ≤ n → ((k : ℕ) → m ≤ k → k < n → f k ≡ []) → each_below n f ≡ each_below m f
  each_gap m n f l none = go (n - m) (omega arith)
    where
      go : (gap : ℕ) → n ≡ m + gap → each_below n f ≡ each_below m f
      go gap e =
          ap (λ (k : ℕ). each_below k f) e ∙ each_add m gap f
          ∙ ap (λ (l : List A). each_below m f ++ l) (none_of gap (λ j. f (m + j)) (λ k less. none (m + k) (omega arith) (omega arith)))
          ∙ append-nil (each_below m f)

  -- numbers of two digits, the second below b
  pub each_digits : (a b : ℕ) (f : ℕ → List A) → each_below (a * b) f ≡ each_below a (λ i. each_below b (λ j. f (i * b + j)))
  unfolding each_below
  each_digits zero b f = let z : 0 * b ≡ 0 = omega arith in rw z
  each_digits (suc a) b f =
      let s : suc a * b ≡ a * b + b = omega arith in
      ap (λ (n : ℕ). each_below n f) s ∙ each_add (a * b) b f ∙ ap (λ (l : List A). l ++ each_below b (λ j. f (a * b + j))) (each_digits a b f)

  -- what is written of two lists
  pub of-append : (w : A → List ℕ) (xs ys : List A) → each_of w (xs ++ ys) ≡ each_of w xs ++ each_of w ys
  unfolding each_of
  of-append w [] ys = refl
  of-append w (x ∷ xs) ys = rw (of-append w xs ys, append_assoc)

  -- of one element
  pub of_one : (w : A → List ℕ) (x : A) → each_of w (x ∷ []) ≡ w x
  unfolding each_of
  of_one w x = append-nil (w x)

  -- of the first elements of a list, and one more
  pub of-next : (w : A → List ℕ) (xs : List A) (i : ℕ) (d : A) → i < length xs → each_of w (take (i + 1) xs) ≡ each_of w (take i xs) ++ w (get_or xs i d)
  of-next w xs i d inside = rw (add-one i, take-suc xs i d, of-append w (take i xs) (get_or xs i d ∷ []), of_one w (get_or xs i d))

sum-add : (m n : ℕ) (f : ℕ → ℕ) → sum_below (m + n) f ≡ sum_below m f + sum_below n (λ j. f (m + j))
unfolding sum_below
sum-add m zero f = let z : m + 0 ≡ m = omega arith in rw z (omega arith)
sum-add m (suc n) f =
    let s : m + suc n ≡ suc (m + n) = omega arith in
    ap (λ (k : ℕ). sum_below k f) s ∙ omega (arith, sum-add m n f)

pub sum-digits : (a b : ℕ) (f : ℕ → ℕ) → sum_below (a * b) f ≡ sum_below a (λ i. sum_below b (λ j. f (i * b + j)))
unfolding sum_below
sum-digits zero b f = let z : 0 * b ≡ 0 = omega arith in rw z
sum-digits (suc a) b f =
    let s : suc a * b ≡ a * b + b = omega arith in
    ap (λ (n : ℕ). sum_below n f) s ∙ sum-add (a * b) b f ∙ ap (λ (k : ℕ). k + sum_below b (λ j. f (a * b + j))) (sum-digits a b f)
