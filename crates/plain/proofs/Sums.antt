-- Sums of a figure over the numbers below n, and what a change of one figure does to them. Assumes nothing.
use Rattle.std.specs.Prelude.{if◌then◌else◌}
use Prim.Native.Nat.{ℕ, zero, suc, ◌+◌, ◌≤◌, ◌<◌}
use native.Mathlib.Numerals.{add-one}
use native.Mathlib.Decide.{ℕ_discrete}
use native.Mathlib.Omega.{arith}
use mathlib.Core.Bool.{Bool, true, false}
use mathlib.Core.Logic.{◌≢◌}
use mathlib.Core.Path.{◌≡◌, refl, sym, ap₂}
use borrow.Author.Tests.{eq-eqb, ne_eqb}
use Rattle.plain.specs.Lists.{◌is◌, sum_below}

-- the same figures have the same sum
pub sum_same : (n : ℕ) (f g : ℕ → ℕ) → ((j : ℕ) → j < n → g j ≡ f j) → sum_below n g ≡ sum_below n f
unfolding sum_below
sum_same zero f g e = refl
sum_same (suc n) f g e = ap₂ ◌+◌ (sum_same n f g (λ j h. e j (omega arith))) (e n (omega arith))

pub sum-add : (n : ℕ) (f g : ℕ → ℕ) → sum_below n (λ i. f i + g i) ≡ sum_below n f + sum_below n g
unfolding sum_below
sum-add zero f g = refl
sum-add (suc n) f g = omega (arith, sum-add n f g)

pub sum-none : (n : ℕ) (f : ℕ → ℕ) → ((k : ℕ) → k < n → f k ≡ 0) → sum_below n f ≡ 0
unfolding sum_below
sum-none zero f e = refl
sum-none (suc n) f e = omega (arith, e n (omega arith), sum-none n f (λ k l. e k (omega arith)))

-- a change of one figure is a change of the sum
pub sum-change : (n j : ℕ) (f g : ℕ → ℕ) → j < n → ((k : ℕ) → k < n → k ≢ j → g k ≡ f k) → sum_below n g + f j ≡ sum_below n f + g j
unfolding sum_below
sum-change zero j f g l e = absurd (omega arith)
sum-change (suc n) j f g l e = go (ℕ_discrete j n) (λ m. sum-change n j f g m (λ k r ne. e k (omega arith) ne))
  where
    go : Dec (j ≡ n) → (j < n → sum_below n g + f j ≡ sum_below n f + g j) → sum_below n g + g n + f j ≡ sum_below n f + f n + g j
    go (yes s) earlier = rw s (omega (arith, sum_same n f g (λ k m. e k (omega arith) (λ z. omega (arith, z, s, m)))))
    go (no d) earlier = omega (arith, e n (omega arith) (λ q. d (sym q)), earlier (omega (arith, d)))

-- by a difference that is known
pub sum-differs :
    (n i x y : ℕ) (f g : ℕ → ℕ) → i < n → ((j : ℕ) → j ≢ i → g j ≡ f j) → g i + x ≡ f i + y → sum_below n g + x ≡ sum_below n f + y
sum-differs n i x y f g l e d = omega (arith, sum-change n i f g l (λ j m ne. e j ne), d)

-- one figure more
pub sum-suc : (n : ℕ) (f : ℕ → ℕ) → sum_below (suc n) f ≡ sum_below n f + f n
unfolding sum_below
sum-suc n f = refl

pub sum-last : (n : ℕ) (f : ℕ → ℕ) → sum_below (n + 1) f ≡ sum_below n f + f n
sum-last n f = rw add-one (sum-suc n f)

-- the figure at j is taken out, and the last one comes into its place
pub sum_moved : (n j : ℕ) (f g : ℕ → ℕ) → j ≤ n → ((k : ℕ) → k < n → k ≢ j → g k ≡ f k) → (j < n → g j ≡ f n) → sum_below n g + f j ≡ sum_below (n + 1) f
sum_moved n j f g l e m = go (ℕ_discrete j n)
  where
    go : Dec (j ≡ n) → sum_below n g + f j ≡ sum_below (n + 1) f
    go (yes s) = rw s (omega (arith, sum-last n f, sum_same n f g (λ k r. e k r (λ z. omega (arith, z, s, r)))))
    go (no d) = let r : j < n = omega (arith, d) in omega (arith, sum-last n f, m r, sum-change n j f g r e)

-- each figure is at most the sum, and the sum grows with n
pub sum-least : (n j : ℕ) (f : ℕ → ℕ) → j < n → f j ≤ sum_below n f
sum-least n j f l = go (sum-change n j f (λ k. if k is j then 0 else f k) l (λ k r d. rw (ne_eqb k j d)))
  where
    go : sum_below n (λ k. if k is j then 0 else f k) + f j ≡ sum_below n f + (if j is j then 0 else f j) → f j ≤ sum_below n f
    go e = let z : (j is j) ≡ true = eq-eqb j j refl in omega (arith, rw z at e)

pub sum-grows : (m n : ℕ) (f : ℕ → ℕ) → m ≤ n → sum_below m f ≤ sum_below n f
unfolding sum_below
sum-grows m zero f l = let z : m ≡ 0 = omega arith in rw z (omega arith)
sum-grows m (suc n) f l = go (ℕ_discrete m (suc n)) (λ r. sum-grows m n f r)
  where
    go : Dec (m ≡ suc n) → (m ≤ n → sum_below m f ≤ sum_below n f) → sum_below m f ≤ sum_below n f + f n
    go (yes s) earlier = rw s (omega arith)
    go (no d) earlier = omega (arith, earlier (omega (arith, d)))

-- where at most one number passes a test, the sum of a figure over those that pass is the figure of the one
module _ (n : ℕ) (test : ℕ → Bool) (once : sum_below n (λ k. if test k then 1 else 0) ≤ 1) (j : ℕ) (l : j < n) (here : test j ≡ true) where
  pub one_passes : (k : ℕ) → k < n → test k ≡ true → k ≡ j
  one_passes k r there = go (ℕ_discrete k j)
    where
      one : ℕ → ℕ
      one i = if test i then 1 else 0

      without : ℕ → ℕ
      without i = if i is j then 0 else one i

      go : Dec (k ≡ j) → k ≡ j
      go (yes s) = s
      go (no d) =
          let a : sum_below n without + one j ≡ sum_below n one + without j = sum-change n j one without l (λ i m e. rw (ne_eqb i j e)) in
          let b : without k ≤ sum_below n without = sum-least n k without r in
          let here1 : one j ≡ 1 = rw here in
          let gone : without j ≡ 0 = rw (eq-eqb j j refl) in
          let there1 : without k ≡ 1 = rw (ne_eqb k j d, there) in
          absurd (omega (arith, a, b, here1, gone, there1, once))

  pub sum_one : (f : ℕ → ℕ) → sum_below n (λ k. if test k then f k else 0) ≡ f j
  sum_one f =
      let a : sum_below n (λ k. if test k then f k else 0) + 0 ≡ sum_below n (λ k. 0) + (if test j then f j else 0) =
      sum-change n j (λ k. 0) (λ k. if test k then f k else 0) l other in
      let b : (if test j then f j else 0) ≡ f j = rw here in
      omega (arith, a, b, sum-none n (λ k. 0) (λ k m. refl))
    where
      other : (k : ℕ) → k < n → k ≢ j → (if test k then f k else 0) ≡ 0
      other k r d = go (test k) refl
        where
          go : (b : Bool) → test k ≡ b → (if b then f k else 0) ≡ 0
          go true e = absurd (d (one_passes k r e))
          go false e = refl
