-- Two references in range with one key are one reference of one member, and a request comes back out of its two words. Assumes nothing.
use Prim.Native.Nat.{ℕ, ◌/◌, ◌%◌, ◌^◌}
use native.Mathlib.Omega.{arith}
use mathlib.Core.Bool.{Bool, true, false, ◌&&◌}
use mathlib.Core.Path.{◌≡◌, refl, sym, ap₂, ◌∙◌}
use borrow.Author.Tests.{lt-ltb, ltb-true, eq-eqb, eqb-true, eqb-false}
use Rattle.plain.specs.Lists.{◌is◌, ◌below◌}
use Rattle.plain.proofs.Tests.{both}
use Rattle.rulebook.specs.declared.Request.{Request}
use Rattle.requests.specs.Packed.{ReferenceInRange, in_range, key_of, RequestInRange, shares_word, quantity_word, request_in}

pub range_true : (m n : ℕ) → ReferenceInRange m n → in_range m n ≡ true
unfolding in_range
range_true m n r = rw (lt-ltb _ _ r.member_most, lt-ltb _ _ r.reference_most)

pub range_holds : (m n : ℕ) → in_range m n ≡ true → ReferenceInRange m n
unfolding in_range
range_holds m n e = let h = both (m below 2 ^ 10) (n below 2 ^ 32) e in record { member_most = ltb-true _ _ h.0; reference_most = ltb-true _ _ h.1 }

-- the keys are equal where both numbers are
pub key_test : (m n p q : ℕ) → ReferenceInRange m n → ReferenceInRange p q → (key_of m n is key_of p q) ≡ (m is p && n is q)
key_test m n p q r s = go (key_of m n is key_of p q) (m is p && n is q) refl refl
  where
    go : (x y : Bool) → (key_of m n is key_of p q) ≡ x → (m is p && n is q) ≡ y → x ≡ y
    go true true e f = refl
    go false false e f = refl
    go true false e f =
        let k : key_of m n ≡ key_of p q = eqb-true (key_of m n) (key_of p q) e in
        let same : (m is p && n is q) ≡ true = rw (eq-eqb m p (omega (arith, k, r, s)), eq-eqb n q (omega (arith, k, r, s))) in
        sym same ∙ f
    go false true e f =
        let h = both (m is p) (n is q) f in absurd (eqb-false (key_of m n) (key_of p q) e (ap₂ key_of (eqb-true m p h.0) (eqb-true n q h.1)))

-- what is in range is not what is not
pub other_range : (m n p q : ℕ) → ReferenceInRange m n → in_range p q ≡ false → (m is p && n is q) ≡ false
other_range m n p q r e = go (m is p && n is q) refl
  where
    go : (x : Bool) → (m is p && n is q) ≡ x → x ≡ false
    go true f =
        let h = both (m is p) (n is q) f in
        sym (range_true m n r) ∙ ap₂ in_range (eqb-true m p h.0) (eqb-true n q h.1) ∙ e
    go false f = refl

pub packed_back : (r : Request) → RequestInRange r → request_in (shares_word r) (quantity_word r) ≡ r
packed_back r fits =
    let s : shares_word r / 2 ^ 38 ≡ r.security = omega arith in
    let t : shares_word r / 2 ^ 30 % 2 ^ 8 ≡ r.typ = omega arith in
    let h : shares_word r % 2 ^ 30 ≡ r.shareholder = omega arith in
    let q : quantity_word r / 2 ^ 16 ≡ r.quantity.0 = omega arith in
    let d : quantity_word r % 2 ^ 16 ≡ r.day = omega arith in
    λ i. record { security = s i; typ = t i; shareholder = h i; quantity = record { 0 = q i }; day = d i }
