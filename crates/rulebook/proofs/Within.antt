-- Ranges of forms: a number within two ends. Assumes nothing.
use Prim.Native.Nat.{ℕ, ◌≤◌, ◌<◌}
use mathlib.Core.Path.{◌≡◌, refl}
use mathlib.Core.Bool.{Bool, true, false, ◌&&◌, ◌||◌}
use mathlib.Core.List.{[], ◌∷◌}
use native.Mathlib.Omega.{arith}
use borrow.Author.Tests.{eq-eqb, ne_eqb, eqb-false, le-leb, leb-true, leb-false, lt-leb}
use lib.Dec.{leb}
use Rattle.plain.specs.Lists.{◌is◌, ◌one_of◌, within}
use Rattle.plain.proofs.Tests.{both}

pub within-parts : (a b n : ℕ) → within a b n ≡ true → (a ≤ n) × (n ≤ b)
within-parts a b n e = (leb-true a n (both (leb a n) (leb n b) e).0, leb-true n b (both (leb a n) (leb n b) e).1)

pub within-not : (a b n k : ℕ) → b < k → within a b n ≡ true → (n is k) ≡ false
within-not a b n k l e = ne_eqb n k (λ p. omega (arith, (within-parts a b n e).1))

-- a form that is none of 12 to 15
pub not_waiting : (n : ℕ) → within 12 15 n ≡ false → (within 12 14 n ≡ false) × ((n is 15) ≡ false)
not_waiting n e = go (leb 12 n) refl e
  where
    go : (t : Bool) → leb 12 n ≡ t → (t && leb n 15) ≡ false → ((leb 12 n && leb n 14) ≡ false) × ((n is 15) ≡ false)
    go true p q = let l = leb-false n 15 q in (rw (p, lt-leb n 14 (omega arith)), ne_eqb n 15 (λ r. omega arith))
    go false p q = let l = leb-false 12 n p in (rw p, ne_eqb n 15 (λ r. omega arith))

-- forms 5 to 9 are some of 4 to 9
pub wider : (n : ℕ) → within 5 9 n ≡ true → within 4 9 n ≡ true
wider n e = let w = within-parts 5 9 n e in rw (le-leb 4 n (omega arith), le-leb n 9 w.1)

-- forms 12 and 13
pub instruction : (n : ℕ) → within 12 13 n ≡ true → (n one_of (12 ∷ 13 ∷ [])) ≡ true
instruction n e = go (n is 12) refl
  where
    go : (t : Bool) → (n is 12) ≡ t → (n is 12 || (n is 13 || false)) ≡ true
    go true p = rw p
    go false p = let w = within-parts 12 13 n e in let q = eqb-false n 12 p in rw (p, eq-eqb n 13 (omega (arith, q)))
