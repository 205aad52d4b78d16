-- What a search by places has found, and lists by places after a store, a push and a removal. Assumes nothing.
use Rattle.std.specs.List.{find, range_with_len}
use Rattle.std.specs.Prelude.{if◌then◌else◌, Option, option_map, is_some, Some, None}
use Prim.Native.Nat.{ℕ, zero, suc, ◌+◌, ◌-◌, ◌≤◌, ◌<◌}
use native.Mathlib.Numerals.{add-one}
use native.Mathlib.Omega.{arith}
use mathlib.Core.Bool.{Bool, true, false, ◌||◌}
use mathlib.Core.List.{List, [], ◌∷◌, ◌++◌, map, append-nil}
use mathlib.Core.Path.{◌≡◌, refl, sym, ap, ◌∙◌, subst}
use lib.Dec.{eqb}
use lib.ListN.{length, get_or, set, drop_of_length-le}
use borrow.Author.Tests.{eqb-true, eqb-false}
use borrow.Rule.Slice.PartMut.{put_mid}
use Rattle.plain.specs.Lists.{some, total, sum_below}
use Rattle.plain.proofs.Lists.{total-append}
use Rattle.words.specs.Places.{first_from, list_from, remove_at}

-- ---- a search that goes on from place i

module _ (p : ℕ → Bool) where
  pub first_next : (n i : ℕ) → i < n → p i ≡ false → first_from p i (n - i) ≡ first_from p (i + 1) (n - (i + 1))
  unfolding first_from
  first_next n i l e = let s : n - i ≡ suc (n - (i + 1)) = omega arith in rw (s, e) (ap (λ (k : ℕ). first_from p k (n - (i + 1))) (sym (add-one i)))

  -- ---- what it has found

  hit_from : (n i j : ℕ) → first_from p i n ≡ Some j → (j < i + n) × (p j ≡ true)
  unfolding first_from
  hit_from zero i j e = let z : ◌≡◌ {A = ℕ} 0 1 = cc in absurd (omega arith)
  hit_from (suc n) i j e = go (p i) refl (λ f. hit_from n (suc i) j f)
    where
      go : (b : Bool) → p i ≡ b → (first_from p (suc i) n ≡ Some j → (j < suc i + n) × (p j ≡ true)) → (j < i + suc n) × (p j ≡ true)
      go true t rest =
          let f : Some i ≡ Some j = rw t at e in
          let s : i ≡ j = cc in
          (omega arith, subst (λ (k : ℕ). p k ≡ true) s t)
      go false t rest =
          let r = rest (rw t at e) in
          (omega (arith, r.0), r.1)

  pub hit : (n j : ℕ) → first_from p 0 n ≡ Some j → (j < n) × (p j ≡ true)
  hit n j e = let r = hit_from n 0 j e in (omega (arith, r.0), r.1)

  miss_from : (n i j : ℕ) → first_from p i n ≡ None → i ≤ j → j < i + n → p j ≡ false
  unfolding first_from
  miss_from zero i j e l h = absurd (omega arith)
  miss_from (suc n) i j e l h = go (p i) refl (λ f g. miss_from n (suc i) j f g (omega arith))
    where
      go : (b : Bool) → p i ≡ b → (first_from p (suc i) n ≡ None → suc i ≤ j → p j ≡ false) → p j ≡ false
      go true t rest =
          let f : Some i ≡ None = rw t at e in
          let z : ◌≡◌ {A = ℕ} 0 1 = cc in
          absurd (omega arith)
      go false t rest = same (eqb i j) refl
        where
          same : (b : Bool) → eqb i j ≡ b → p j ≡ false
          same true q = subst (λ (k : ℕ). p k ≡ false) (eqb-true i j q) t
          same false q = rest (rw t at e) (omega (arith, eqb-false i j q))

  pub miss : (n : ℕ) → first_from p 0 n ≡ None → (j : ℕ) → j < n → p j ≡ false
  miss n e j l = miss_from n 0 j e (omega arith) (omega arith)

-- ---- the library's search of the places

find_of_range : (p : ℕ → Bool) (i n : ℕ) → find p (range_with_len i n) ≡ first_from p i n
unfolding first_from
find_of_range p i zero = refl
find_of_range p i (suc n) = ap (λ (later : Option ℕ). if p i then Some i else later) (rw (← add-one i) (find_of_range p (i + 1) n))

-- what `(i..i + n).find` has found, as `find_from_yields_List` tells it
pub found_in_range : (p : ℕ → Bool) (i n : ℕ) (found : Option ℕ) → option_map (λ (k : ℕ). k) found ≡ find p (range_with_len i n) → found ≡ first_from p i n
found_in_range p i n None e = e ∙ find_of_range p i n
found_in_range p i n (Some k) e = e ∙ find_of_range p i n

-- ---- lists by places

module _ {A : Type 0} where
  pub length_from : (f : ℕ → A) (i n : ℕ) → length (list_from f i n) ≡ n
  unfolding list_from
  length_from f i zero = refl
  length_from f i (suc n) = ap suc (length_from f (suc i) n)

  pub from_get : (f : ℕ → A) (i n j : ℕ) (d : A) → j < n → get_or (list_from f i n) j d ≡ f (i + j)
  unfolding list_from
  from_get f i zero j d h = absurd (omega arith)
  from_get f i (suc n) zero d h = let a : i ≡ i + 0 = omega arith in ap f a
  from_get f i (suc n) (suc j) d h = let a : suc i + j ≡ i + suc j = omega arith in from_get f (suc i) n j d (omega arith) ∙ ap f a

  -- equal places, equal lists; the two may be counted from different places
  pub from_same : (f g : ℕ → A) (i j n : ℕ) → ((k : ℕ) → k < n → g (j + k) ≡ f (i + k)) → list_from g j n ≡ list_from f i n
  unfolding list_from
  from_same f g i j zero h = refl
  from_same f g i j (suc n) h =
      let z : g (j + 0) ≡ f (i + 0) = h 0 (omega arith) in
      let a : j + 0 ≡ j = omega arith in
      let b : i + 0 ≡ i = omega arith in
      let first : g j ≡ f i = ap g (sym a) ∙ z ∙ ap f b in
      let next : (k : ℕ) → k < n → g (suc j + k) ≡ f (suc i + k) =
      λ k l.
      let c : suc j + k ≡ j + suc k = omega arith in
      let d : suc i + k ≡ i + suc k = omega arith in
      ap g c ∙ h (suc k) (omega arith) ∙ ap f (sym d)
      in
      rw (first, from_same f g (suc i) (suc j) n next)

  -- one place stored to
  pub from_set :
      (f g : ℕ → A) (i n j : ℕ) → j < n → ((k : ℕ) → k < n → (k ≡ j → ⊥) → g (i + k) ≡ f (i + k)) → list_from g i n ≡ set (list_from f i n) j (g (i + j))
  unfolding list_from
  from_set f g i zero j l h = absurd (omega arith)
  from_set f g i (suc n) zero l h =
      let a : i + 0 ≡ i = omega arith in
      let rest : list_from g (suc i) n ≡ list_from f (suc i) n =
      from_same f g (suc i) (suc i) n
      (λ k m. let c : suc i + k ≡ i + suc k = omega arith in ap g c ∙ h (suc k) (omega arith) (λ z. omega (arith, z)) ∙ ap f (sym c))
      in
      rw (a, rest)
  from_set f g i (suc n) (suc j) l h =
      let a : i + 0 ≡ i = omega arith in
      let z : g i ≡ f i = ap g (sym a) ∙ h 0 (omega arith) (λ z. omega (arith, z)) ∙ ap f a in
      let c : suc i + j ≡ i + suc j = omega arith in
      let rest : list_from g (suc i) n ≡ set (list_from f (suc i) n) j (g (suc i + j)) =
      from_set f g (suc i) n j (omega arith)
      (λ k m ne. let d : suc i + k ≡ i + suc k = omega arith in ap g d ∙ h (suc k) (omega arith) (λ e. ne (omega (arith, e))) ∙ ap f (sym d))
      in
      rw (z, rest, c)

  -- one place more
  pub from_push : (f g : ℕ → A) (i n : ℕ) → ((k : ℕ) → k < n → g (i + k) ≡ f (i + k)) → list_from g i (suc n) ≡ list_from f i n ++ (g (i + n) ∷ [])
  unfolding list_from
  from_push f g i zero h = let a : i + 0 ≡ i = omega arith in rw a
  from_push f g i (suc n) h =
      let a : i + 0 ≡ i = omega arith in
      let z : g i ≡ f i = ap g (sym a) ∙ h 0 (omega arith) ∙ ap f a in
      let c : suc i + n ≡ i + suc n = omega arith in
      let rest : list_from g (suc i) (suc n) ≡ list_from f (suc i) n ++ (g (suc i + n) ∷ []) =
      from_push f g (suc i) n (λ k m. let d : suc i + k ≡ i + suc k = omega arith in ap g d ∙ h (suc k) (omega arith) ∙ ap f (sym d))
      in
      ap (λ (x : A). x ∷ list_from g (suc i) (suc n)) z ∙ ap (λ (r : List A). f i ∷ r) (rest ∙ ap (λ (k : ℕ). list_from f (suc i) n ++ (g k ∷ [])) c)

  -- one place taken out: those below stay, each later one comes one down
  pub from_remove :
      (f g : ℕ → A) (i n j : ℕ) → j ≤ n → ((k : ℕ) → k < j → g (i + k) ≡ f (i + k)) → ((k : ℕ) → j ≤ k → k < n → g (i + k) ≡ f (i + suc k)) → list_from g i n
      ≡ remove_at j (list_from f i (suc n))
  unfolding list_from
  from_remove f g i n zero l h m = from_same f g (suc i) i n (λ k q. let d : i + suc k ≡ suc i + k = omega arith in m k (omega arith) q ∙ ap f d)
  from_remove f g i zero (suc j) l h m = absurd (omega arith)
  from_remove f g i (suc n) (suc j) l h m =
      let a : i + 0 ≡ i = omega arith in
      let z : g i ≡ f i = ap g (sym a) ∙ h 0 (omega arith) ∙ ap f a in
      let rest : list_from g (suc i) n ≡ remove_at j (list_from f (suc i) (suc n)) =
      from_remove f g (suc i) n j (omega arith) (λ k q. let d : suc i + k ≡ i + suc k = omega arith in ap g d ∙ h (suc k) (omega arith) ∙ ap f (sym d))
      (λ k q r. let d : suc i + k ≡ i + suc k = omega arith in let e : i + suc (suc k) ≡ suc i + suc k = omega arith in ap g d ∙ m (suc k) (omega arith)
      (omega arith) ∙ ap f e)
      in
      ap (λ (x : A). x ∷ list_from g (suc i) n) z ∙ ap (λ (r : List A). f i ∷ r) rest

  -- a list by places under a function, and whether some element passes a test
  pub from_map : {B : Type 0} (h : A → B) (f : ℕ → A) (i n : ℕ) → map h (list_from f i n) ≡ list_from (λ k. h (f k)) i n
  unfolding list_from
  from_map h f i zero = refl
  from_map {B} h f i (suc n) = ap {B = List B} (λ r. h (f i) ∷ r) (from_map h f (suc i) n)

  pub from_some : (test : A → Bool) (f : ℕ → A) (i n : ℕ) → some test (list_from f i n) ≡ is_some (first_from (λ k. test (f k)) i n)
  unfolding list_from first_from
  from_some test f i zero = refl
  from_some test f i (suc n) = go (test (f i)) (from_some test f (suc i) n)
    where
      go :
          (b : Bool) → some test (list_from f (suc i) n) ≡ is_some (first_from (λ k. test (f k)) (suc i) n) → (b || some test (list_from f (suc i) n))
          ≡ is_some (if b then Some i else first_from (λ k. test (f k)) (suc i) n)
      go true rest = refl
      go false rest = rest

  -- its total is the sum over the places
  pub from_total : (figure : A → ℕ) (f : ℕ → A) (n : ℕ) → total figure (list_from f 0 n) ≡ sum_below n (λ k. figure (f k))
  unfolding list_from sum_below
  from_total figure f zero = refl
  from_total figure f (suc n) =
      let z : 0 + n ≡ n = omega arith in
      let last : figure (f (0 + n)) ≡ figure (f n) = ap (λ (k : ℕ). figure (f k)) z in
      ap (total figure) (from_push f f 0 n (λ k l. refl)) ∙ total-append figure (list_from f 0 n) (f (0 + n) ∷ []) ∙ omega (arith, last, from_total figure f n)

-- ---- a whole buffer

-- words that are written over all of it
pub whole : (xs ys : List ℕ) (n : ℕ) → length xs ≡ n → put_mid 0 n xs ys ≡ ys
whole xs ys n e = let l : length xs ≤ n = omega arith in rw (drop_of_length-le xs l) (append-nil ys)
