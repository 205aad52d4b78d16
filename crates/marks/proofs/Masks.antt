-- A mask's bits: none in 0, where two masks differ, what a flip does, the first that is set; masks with the same bits are the same. Assumes nothing.
use Rattle.std.specs.Prelude.{if◌then◌else◌}
use Prim.Native.Nat.{ℕ, zero, suc, ◌+◌, ◌-◌, ◌*◌, ◌/◌, ◌%◌, ◌^◌, ◌≤◌, ◌<◌}
use native.Mathlib.Omega.{arith}
use native.Mathlib.Nat.{zero-div, lt_of_lt_of_le}
use native.Mathlib.Decide.{ℕ_discrete}
use mathlib.Core.Bool.{false, not}
use mathlib.Core.Path.{◌≡◌, refl, sym, ap, ◌∙◌, subst}
use lib.Pow.{pow_mono, shr-shr, shr_lt, shr_mono, shl-shr, shl_exact}
use lib.Bits.{bit_xor, xor_shr, xor_mod}
use lib.Count.{count_leading_zeros, leading_top}
use borrow.Author.Tests.{eq-eqb, ne_eqb}
use Rattle.plain.specs.Lists.{◌is◌}
use Rattle.marks.specs.Marks.{is_on, First}

pub none_on : (k : ℕ) → is_on 0 k ≡ false
unfolding is_on
none_on k = rw (zero-div (2 ^ (63 - k)))

-- a power of 2 has one bit
half : (n k : ℕ) → n / 2 ^ suc k ≡ n / 2 / 2 ^ k
half n k =
    let s : 1 + k ≡ suc k = omega arith in
    ap (λ (x : ℕ). n / 2 ^ x) (sym s) ∙ sym (shr-shr n 1 k)

own_bit : (b : ℕ) → 2 ^ b / 2 ^ b % 2 ≡ 1
own_bit zero = refl
own_bit (suc b) =
    let d : 2 ^ suc b / 2 ≡ 2 ^ b = omega arith in
    rw (half (2 ^ suc b) b, d) (own_bit b)

other_bit : (b k : ℕ) → (k ≡ b → ⊥) → 2 ^ b / 2 ^ k % 2 ≡ 0
other_bit zero zero e = absurd (e refl)
other_bit zero (suc k) e = rw (half 1 k, zero-div (2 ^ k))
other_bit (suc b) zero e = omega arith
other_bit (suc b) (suc k) e =
    let d : 2 ^ suc b / 2 ≡ 2 ^ b = omega arith in
    rw (half (2 ^ suc b) k, d) (other_bit b k (λ s. e (ap suc s)))

-- the mask of one mark
one_on : (i k : ℕ) → i < 64 → k < 64 → is_on (1 * 2 ^ (63 - i) % 2 ^ 64) k ≡ (k is i)
unfolding is_on
one_on i k l h = rw bit (go (ℕ_discrete k i))
  where
    bit : 1 * 2 ^ (63 - i) % 2 ^ 64 ≡ 2 ^ (63 - i)
    bit = shl_exact 1 (63 - i) 64 (omega arith) (omega arith) ∙ omega arith

    go : Dec (k ≡ i) → (2 ^ (63 - i) / 2 ^ (63 - k) % 2 is 1) ≡ (k is i)
    go (yes e) = rw (e, own_bit (63 - i), eq-eqb i i refl)
    go (no d) =
        let apart : 63 - k ≡ 63 - i → ⊥ = λ s. d (omega (arith, s)) in
        rw (other_bit (63 - i) (63 - k) apart, ne_eqb k i d)

-- ---- where two masks differ, and a flip

differs : (x y : ℕ) → x < 2 → y < 2 → (bit_xor x y is 1) ≡ (if y is 1 then not (x is 1) else (x is 1))
differs zero zero l h = refl
differs zero (suc zero) l h = refl
differs zero (suc (suc y)) l h = absurd (omega arith)
differs (suc zero) zero l h = refl
differs (suc zero) (suc zero) l h = refl
differs (suc zero) (suc (suc y)) l h = absurd (omega arith)
differs (suc (suc x)) y l h = absurd (omega arith)

pub differ_on : (one other k : ℕ) → is_on (bit_xor one other) k ≡ (if is_on other k then not (is_on one k) else is_on one k)
unfolding is_on
differ_on one other k = rw both (differs (one / 2 ^ (63 - k) % 2) (other / 2 ^ (63 - k) % 2) (omega arith) (omega arith))
  where
    both : bit_xor one other / 2 ^ (63 - k) % 2 ≡ bit_xor (one / 2 ^ (63 - k) % 2) (other / 2 ^ (63 - k) % 2)
    both = ap (λ (x : ℕ). x % 2) (xor_shr one other (63 - k)) ∙ xor_mod (one / 2 ^ (63 - k)) (other / 2 ^ (63 - k)) 1

pub flip_on : (marks i k : ℕ) → i < 64 → k < 64 → is_on (bit_xor marks (1 * 2 ^ (63 - i) % 2 ^ 64)) k ≡ (if k is i then not (is_on marks i) else is_on marks k)
flip_on marks i k l h = differ_on marks (1 * 2 ^ (63 - i) % 2 ^ 64) k ∙ rw (one_on i k l h) (go (ℕ_discrete k i))
  where
    go : Dec (k ≡ i) → (if k is i then not (is_on marks k) else is_on marks k) ≡ (if k is i then not (is_on marks i) else is_on marks k)
    go (yes e) = rw e
    go (no d) = rw (ne_eqb k i d)

-- a bit counts 1 where it is set
counts : (y : ℕ) → y < 2 → y ≡ (if y is 1 then 1 else 0)
counts zero l = refl
counts (suc zero) l = refl
counts (suc (suc y)) l = absurd (omega arith)

pub on_counts : (marks k : ℕ) → marks / 2 ^ (63 - k) % 2 ≡ (if is_on marks k then 1 else 0)
unfolding is_on
on_counts marks k = counts (marks / 2 ^ (63 - k) % 2) (omega arith)

-- ---- the first mark

-- a word's highest bit, and those above it
top_bit : (a j : ℕ) → 2 ^ j ≤ a → a < 2 ^ suc j → a / 2 ^ j ≡ 1
top_bit a j l h =
    let s : suc j ≡ 1 + j = omega arith in
    let own : 1 * 2 ^ j ≤ a = omega arith in
    omega (arith, shr_lt 1 j (rw s at h), shr_mono j own, shl-shr 1 j)

no_bit : (a j : ℕ) → a < 2 ^ j → a / 2 ^ j ≡ 0
no_bit a j h =
    let s : j ≡ 0 + j = omega arith in
    omega (arith, shr_lt 0 j (rw s at h))

pub first_on : (marks : ℕ) → 0 < marks → marks < 2 ^ 64 → First marks (count_leading_zeros 64 marks)
unfolding is_on
first_on marks some fits =
    let t = leading_top 64 marks some fits in
    let z : ℕ = count_leading_zeros 64 marks in
    let place : 63 - z ≡ t.0 = omega (arith, t.1) in
    record {
      inside = omega (arith, t.1);
      on = rw (place, top_bit marks t.0 t.2 t.3);
      none_before = λ k l. rw (no_bit marks (63 - k) (lt_of_lt_of_le t.3 (pow_mono (omega (arith, t.1)))));
    }

-- ---- words with the same marks are the same

same_bits : (m a b : ℕ) → a < 2 ^ m → b < 2 ^ m → ((k : ℕ) → k < m → a / 2 ^ k % 2 ≡ b / 2 ^ k % 2) → a ≡ b
same_bits zero a b l h e = omega arith
same_bits (suc m) a b l h e =
    let high = same_bits m (a / 2) (b / 2) (omega arith) (omega arith) (λ k s. rw (← half a k, ← half b k) (e (suc k) (omega arith))) in
    omega (arith, high, e 0 (omega arith))

pub on_same : (a b : ℕ) → a < 2 ^ 64 → b < 2 ^ 64 → ((k : ℕ) → k < 64 → is_on a k ≡ is_on b k) → a ≡ b
on_same a b l h e = same_bits 64 a b l h bit
  where
    bit : (k : ℕ) → k < 64 → a / 2 ^ k % 2 ≡ b / 2 ^ k % 2
    bit k s =
        let place : 63 - (63 - k) ≡ k = omega arith in
        subst (λ (x : ℕ). a / 2 ^ x % 2 ≡ b / 2 ^ x % 2) place (rw (on_counts a (63 - k), on_counts b (63 - k), e (63 - k) (omega arith)))
