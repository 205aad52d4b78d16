-- A search from the end: the last number below n that passes a test. Assumes nothing.
use Prim.Native.Nat.{ℕ, zero, suc, ◌-◌, ◌≤◌, ◌<◌}
use native.Mathlib.Nat.{not-suc-le-zero}
use native.Mathlib.Omega.{arith}
use mathlib.Core.Bool.{Bool, true, false}
use mathlib.Core.Path.{◌≡◌, refl, sym, ap, subst, ◌∙◌}
use borrow.Author.Tests.{ltb-true, ltb-false}
use lib.Dec.{ltb}
use Rattle.std.specs.Prelude.{Some, None}
use Rattle.legs.specs.Figures.{last_below}

module _ (p : ℕ → Bool) where
  pub last_here : (i : ℕ) → 0 < i → p (i - 1) ≡ true → last_below p i ≡ Some (i - 1)
  unfolding last_below
  last_here zero h e = absurd (omega arith)
  last_here (suc i) h e =
      let z : suc i - 1 ≡ i = omega arith in
      let t : p i ≡ true = subst (λ (x : ℕ). p x ≡ true) z e in
      rw (t, z)

  pub last_before : (i : ℕ) → 0 < i → p (i - 1) ≡ false → last_below p i ≡ last_below p (i - 1)
  unfolding last_below
  last_before zero h e = absurd (omega arith)
  last_before (suc i) h e =
      let z : suc i - 1 ≡ i = omega arith in
      let t : p i ≡ false = subst (λ (x : ℕ). p x ≡ false) z e in
      rw (t, z)

  pub last_nowhere : (i : ℕ) → i ≡ 0 → last_below p i ≡ None
  unfolding last_below
  last_nowhere zero e = refl
  last_nowhere (suc i) e = absurd (omega arith)

  pub record Last (n j : ℕ) : Type 0 where
    pub inside : j < n
    pub passed : p j ≡ true
    pub behind : (k : ℕ) → j < k → k < n → p k ≡ false

  -- what holds below n, and of n, holds below n + 1
  upto : (q : ℕ → Type 0) (n k : ℕ) → (k < n → q k) → q n → k < suc n → q k
  upto q n k f e h = go (ltb k n) refl
    where
      go : (b : Bool) → ltb k n ≡ b → q k
      go true t = f (ltb-true k n t)
      go false t = let s : n ≤ k = ltb-false k n t in subst q (omega arith) e

  pub last_at : (n j : ℕ) → last_below p n ≡ Some j → Last n j
  unfolding last_below
  last_at zero j e = let z : ◌≡◌ {A = ℕ} 0 1 = cc in absurd (omega arith)
  last_at (suc n) j e = go (p n) refl (λ f. last_at n j f)
    where
      go : (b : Bool) → p n ≡ b → (last_below p n ≡ Some j → Last n j) → Last (suc n) j
      go true t ih =
          let f : Some n ≡ Some j = rw t at e in
          let s : n ≡ j = cc in
          record { inside = omega arith; passed = subst (λ (x : ℕ). p x ≡ true) s t; behind = λ k l h. absurd (omega arith) }
      go false t ih =
          let r = ih (rw t at e) in
          record { inside = omega (arith, r.inside); passed = r.passed; behind = λ k l h. upto (λ x. p x ≡ false) n k (λ g. r.behind k l g) t h }

  pub last_none : (n : ℕ) → last_below p n ≡ None → (k : ℕ) → k < n → p k ≡ false
  unfolding last_below
  last_none zero e k h = absurd (not-suc-le-zero h)
  last_none (suc n) e k h = go (p n) refl (λ f. last_none n f)
    where
      go : (b : Bool) → p n ≡ b → (last_below p n ≡ None → (k : ℕ) → k < n → p k ≡ false) → p k ≡ false
      go true t ih =
          let f : Some n ≡ None = rw t at e in
          let z : ◌≡◌ {A = ℕ} 0 1 = cc in
          absurd (omega arith)
      go false t ih = upto (λ x. p x ≡ false) n k (λ g. ih (rw t at e) k g) t h

pub last_same : (p q : ℕ → Bool) (n j : ℕ) → ((k : ℕ) → k < n → p k ≡ q k) → Last p n j → Last q n j
last_same p q n j e l = record { inside = l.inside; passed = sym (e j l.inside) ∙ l.passed; behind = λ k g h. sym (e k h) ∙ l.behind k g h }

-- where none of the last ones passes
pub last_cut : (q : ℕ → Bool) (a m : ℕ) → a ≤ m → ((i : ℕ) → a ≤ i → i < m → q i ≡ false) → last_below q m ≡ last_below q a
last_cut q a zero l e = let z : a ≡ 0 = omega arith in ap (last_below q) (sym z)
last_cut q a (suc m) l e = go (ltb m a) refl (last_cut q a m)
  where
    go : (b : Bool) → ltb m a ≡ b → (a ≤ m → ((i : ℕ) → a ≤ i → i < m → q i ≡ false) → last_below q m ≡ last_below q a) → last_below q (suc m) ≡ last_below q a
    go true t ih = let z : suc m ≡ a = omega (arith, ltb-true m a t) in ap (last_below q) z
    go false t ih =
        let s : a ≤ m = ltb-false m a t in
        let y : suc m - 1 ≡ m = omega arith in
        last_before q (suc m) (omega arith) (rw y (e m s (omega arith))) ∙ ap (last_below q) y ∙ ih s (λ i h g. e i h (omega arith))
