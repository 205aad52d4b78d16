-- A number's decimal digits: by their last one, that they are the library's, that they read back as the number, and no leading zero. Assumes nothing.
use Rattle.std.specs.Prelude.{if◌then◌else◌}
use Prim.Native.Nat.{ℕ, zero, suc, ◌+◌, ◌-◌, ◌*◌, ◌/◌, ◌%◌, ◌^◌, ◌≤◌, ◌<◌}
use native.Mathlib.Omega.{arith}
use mathlib.Core.Bool.{Bool, true, false}
use mathlib.Core.List.{List, [], ◌∷◌, ◌++◌}
use mathlib.Core.Path.{◌≡◌, refl, sym, ◌∙◌}
use lib.ListN.{get_or}
use borrow.Author.Tests.{ltb-true, ltb-false}
use Rattle.std.specs.Fmt as Fmt
use Rattle.std.proofs.lemmas.Fmt.{decimal_digit, decimal_step}
use Rattle.plain.specs.Lists.{◌below◌}
use Rattle.text.specs.Text.{digit, digits, decimal}

-- what holds of one digit, and with those before the last of all, holds of a number's digits
by_last :
    (P : ℕ → List ℕ → Type 0) → ((n : ℕ) → n < 10 → P n (digit n)) → ((n : ℕ) (front : List ℕ) → 10 ≤ n → P (n / 10) front → P n (front ++ digit (n % 10)))
    → (steps n : ℕ) → n < steps → P n (digits steps n)
unfolding digits
by_last P one more zero n h = absurd (omega arith)
by_last P one more (suc steps) n h = go (n below 10) refl (λ large. by_last P one more steps (n / 10) (omega arith))
  where
    go : (small : Bool) → (n below 10) ≡ small → (10 ≤ n → P (n / 10) (digits steps (n / 10)))
        → P n (if small then digit n else digits steps (n / 10) ++ digit (n % 10))
    go true e front = one n (ltb-true n 10 e)
    go false e front = more n (digits steps (n / 10)) (ltb-false n 10 e) (front (ltb-false n 10 e))

module _ (P : ℕ → List ℕ → Type 0) (one : (n : ℕ) → n < 10 → P n (digit n))
    (more : (n : ℕ) (front : List ℕ) → 10 ≤ n → P (n / 10) front → P n (front ++ digit (n % 10))) where
  pub of-decimal : (n : ℕ) → P n (decimal n)
  unfolding decimal
  of-decimal n = by_last P one more (suc n) n (omega arith)

-- a number below 2^64 has the library's digits
pub decimal-is : (n : ℕ) → n < 2 ^ 64 → decimal n ≡ Fmt.decimal n
decimal-is =
    of-decimal (λ n l. n < 2 ^ 64 → l ≡ Fmt.decimal n) (λ n small h. sym (decimal_digit n small))
    (λ n front large e h. rw (e (omega arith)) (sym (decimal_step n large h)))

-- the number that bytes say, read from left to right
abbrev pub read : (before : ℕ) → List ℕ → ℕ
read before [] = before
read before (b ∷ rest) = read (before * 10 + (b - 48)) rest

read-last : (before : ℕ) (front : List ℕ) (d : ℕ) → read before (front ++ digit d) ≡ read before front * 10 + d
read-last before [] d = omega arith
read-last before (b ∷ front) d = read-last (before * 10 + (b - 48)) front d

-- a number's digits read back as the number
pub decimal-read : (n : ℕ) → read 0 (decimal n) ≡ n
decimal-read = of-decimal (λ n l. read 0 l ≡ n) (λ n small. omega arith) (λ n front large e. read-last 0 front (n % 10) ∙ rw e (omega arith))

-- and no number but 0 starts with a zero
pub decimal-first : (n : ℕ) → 0 < n → 48 < get_or (decimal n) 0 0
decimal-first = of-decimal (λ n l. 0 < n → 48 < get_or l 0 0) (λ n small h. omega arith) (λ n front large e h. front-first front (n % 10) (e (omega arith)))
  where
    front-first : (l : List ℕ) (d : ℕ) → 48 < get_or l 0 0 → 48 < get_or (l ++ digit d) 0 0
    front-first [] d h = absurd (omega arith)
    front-first (b ∷ l) d h = h
