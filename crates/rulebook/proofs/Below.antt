-- A test on every number below another: what a loop over the places has found, and a table's rule, which is one computed test. Assumes nothing.
use mathlib.Core.Path.{◌≡◌, refl, sym, ap, ◌∙◌}
use mathlib.Core.Bool.{Bool, true, false, not, ◌||◌, or-false, or_assoc}
use mathlib.Core.List.{List, [], ◌∷◌}
use Prim.Native.Nat.{ℕ, zero, suc, ◌<◌}
use native.Mathlib.Omega.{arith}
use Rattle.plain.proofs.Tests.{neither}

-- some number below n passes the test
abbrev pub any : ℕ → (ℕ → Bool) → Bool
any zero test = false
any (suc n) test = test 0 || any n (λ k. test (suc k))

-- the last number apart
pub any-more : (n : ℕ) (test : ℕ → Bool) → any (suc n) test ≡ (any n test || test n)
any-more zero test = or-false (test 0)
any-more (suc n) test = ap (λ (b : Bool). test 0 || b) (any-more n (λ k. test (suc k))) ∙ sym (or_assoc (test 0) (any n (λ k. test (suc k))) (test (suc n)))

-- where none passes, this one does not
pub none_passes : (n : ℕ) (test : ℕ → Bool) → any n test ≡ false → (k : ℕ) → k < n → test k ≡ false
none_passes zero test e k l = absurd (omega arith)
none_passes (suc n) test e zero l = (neither (test 0) (any n (λ j. test (suc j))) e).0
none_passes (suc n) test e (suc k) l = none_passes n (λ j. test (suc j)) (neither (test 0) (any n (λ j. test (suc j))) e).1 k (omega arith)

-- the values of a table at the numbers below n
abbrev pub tabled : {A : Type 0} → ℕ → (ℕ → A) → List A
tabled zero f = []
tabled (suc n) f = f 0 ∷ tabled n (λ k. f (suc k))

-- two tables that compute to one have the same values
pub same_below : {A : Type 0} (n : ℕ) (f g : ℕ → A) → tabled n f ≡ tabled n g → (k : ℕ) → k < n → f k ≡ g k
same_below zero f g e k l = absurd (omega arith)
same_below (suc n) f g e zero l = cc
same_below {A} (suc n) f g e (suc k) l =
    let later : ◌≡◌ {A = List A} (tabled n (λ j. f (suc j))) (tabled n (λ j. g (suc j))) = cc in
    same_below n (λ j. f (suc j)) (λ j. g (suc j)) later k (omega arith)

-- two tests that differ
abbrev pub differ : Bool → Bool → Bool
differ true b = not b
differ false b = b

pub same : (a b : Bool) → differ a b ≡ false → a ≡ b
same true true e = refl
same true false e = cc
same false true e = cc
same false false e = refl
