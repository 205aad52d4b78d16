-- How often a number stands in a list of places. Assumes nothing.
use Rattle.std.specs.Prelude.{if◌then◌else◌}
use Prim.Native.Nat.{ℕ, zero, suc, ◌+◌, ◌<◌}
use native.Mathlib.Omega.{arith}
use mathlib.Core.Bool.{Bool, true, false, ◌||◌}
use mathlib.Core.List.{List, [], ◌∷◌}
use mathlib.Core.Path.{◌≡◌, refl, sym}
use borrow.Author.Tests.{eq-eqb, lt-ltb}
use lib.ListN.{length, get_or}
use Rattle.plain.specs.Lists.{◌is◌, ◌one_of◌, ◌below◌, total}

abbrev pub times : ℕ → List ℕ → ℕ
times n places = total (λ place. if n is place then 1 else 0) places

pub one_of_times : (n : ℕ) (ps : List ℕ) → n one_of ps ≡ (0 below times n ps)
one_of_times n [] = refl
one_of_times n (p ∷ ps) = go (n is p) (one_of_times n ps)
  where
    go : (t : Bool) → n one_of ps ≡ (0 below times n ps) → (t || n one_of ps) ≡ (0 below (if t then 1 else 0) + times n ps)
    go true e = sym (lt-ltb 0 (1 + times n ps) (omega arith))
    go false e = let none : 0 + times n ps ≡ times n ps = omega arith in rw none e

-- a number that does not stand there is not the first place
pub apart : (n p : ℕ) (ps : List ℕ) → times n (p ∷ ps) ≡ 0 → n ≡ p → ⊥
apart n p ps e s = omega (arith, rw (eq-eqb n p s) at e)

-- the first place stands once more than behind it
pub first_more : (p : ℕ) (ps : List ℕ) → times p (p ∷ ps) ≡ suc (times p ps)
first_more p ps = rw (eq-eqb p p refl) (omega arith)

pub at_place : (ps : List ℕ) (i : ℕ) → i < length ps → 0 < times (get_or ps i 0) ps
at_place [] i h = absurd (omega arith)
at_place (p ∷ ps) zero h = omega (arith, first_more p ps)
at_place (p ∷ ps) (suc i) h = omega (arith, at_place ps i (omega arith))
