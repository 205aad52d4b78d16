-- Laws of lists: totals, what holds of some element and of each. Assumes nothing.
use mathlib.Core.Path.{◌≡◌, refl, sym, subst}
use mathlib.Core.Bool.{Bool, true, false, not, ◌||◌, false≢true}
use mathlib.Core.List.{List, [], ◌∷◌, ◌++◌, map}
use Prim.Native.Nat.{ℕ, ◌+◌, ◌≤◌}
use native.Mathlib.Omega.{arith}
use borrow.Author.Tests.{eqb-true}
use lib.ListN.{length}
use Rattle.plain.specs.Lists.{◌is◌, ◌one_of◌, some, keep, total, Each}
use Rattle.plain.proofs.Tests.{neither}

-- ---- totals of a figure

module _ {A : Type 0} where
  -- a part that passes a test and the rest are the whole
  pub keep-split : (figure : A → ℕ) (test : A → Bool) (xs : List A) → total figure (keep test xs) + total figure (keep (λ x. not (test x)) xs) ≡ total figure xs
  keep-split figure test [] = refl
  keep-split figure test (x ∷ rest) = go (test x) refl (keep-split figure test rest)
    where
      go :
          (b : Bool) → test x ≡ b → total figure (keep test rest) + total figure (keep (λ x. not (test x)) rest) ≡ total figure rest
          → total figure (keep test (x ∷ rest)) + total figure (keep (λ x. not (test x)) (x ∷ rest)) ≡ total figure (x ∷ rest)
      go true e ih = simp e (omega arith)
      go false e ih = simp e (omega arith)

  pub keep-most : (figure : A → ℕ) (test : A → Bool) (xs : List A) → total figure (keep test xs) ≤ total figure xs
  keep-most figure test xs = omega (arith, keep-split figure test xs)

  pub length_total : (xs : List A) → length xs ≡ total (λ x. 1) xs
  length_total [] = refl
  length_total (x ∷ rest) = omega (arith, length_total rest)

  pub keep-length : (test : A → Bool) (xs : List A) → length (keep test xs) ≤ length xs
  keep-length test xs = omega (arith, keep-most (λ x. 1) test xs, length_total (keep test xs), length_total xs)

  pub total-append : (figure : A → ℕ) (xs ys : List A) → total figure (xs ++ ys) ≡ total figure xs + total figure ys
  total-append figure [] ys = omega arith
  total-append figure (x ∷ rest) ys = simp (total-append figure rest ys) (omega arith)

  -- one of two lists has an element that passes
  pub some-append : (test : A → Bool) (xs ys : List A) → some test (xs ++ ys) ≡ (some test xs || some test ys)
  some-append test [] ys = refl
  some-append test (x ∷ rest) ys = go (test x) (some-append test rest ys)
    where
      go :
          (t : Bool) → some test (rest ++ ys) ≡ (some test rest || some test ys)
          → (t || some test (rest ++ ys)) ≡ (t || some test rest || some test ys)
      go true ih = refl
      go false ih = ih

-- a change that keeps each figure keeps the total
pub total-map :
    {A B : Type 0} (figure : B → ℕ) (same : A → ℕ) (f : A → B) → ((x : A) → figure (f x) ≡ same x) → (xs : List A) → total figure (map f xs) ≡ total same xs
total-map figure same f e [] = refl
total-map figure same f e (x ∷ rest) = simp (e x, total-map figure same f e rest)

-- ---- each element

-- facts in a row, as `Each` has them
infixr 10 ◌and◌
pub ◌and◌ : {A B : Type 0} → A → B → A × B
◌and◌ a b = (a, b)

pub each_so : {A : Type 0} (P Q : A → Type 0) → ((x : A) → P x → Q x) → (xs : List A) → Each P xs → Each Q xs
each_so P Q f [] e = tt
each_so P Q f (x ∷ rest) e = (f x e.0, each_so P Q f rest e.1)

-- none passes a test
pub each_none : {A : Type 0} (test : A → Bool) (xs : List A) → some test xs ≡ false → Each (λ x. test x ≡ false) xs
each_none test [] e = tt
each_none test (x ∷ rest) e = let n = neither (test x) (some test rest) e in (n.0, each_none test rest n.1)

-- two lists that are made of one and are equal
pub each_same : {A B : Type 0} (f g : A → B) (xs : List A) → map f xs ≡ map g xs → Each (λ x. f x ≡ g x) xs
each_same f g [] e = tt
each_same {A} {B} f g (x ∷ rest) e =
    let one : f x ≡ g x = cc in
    let others : ◌≡◌ {A = List B} (map f rest) (map g rest) = cc in
    (one, each_same f g rest others)

pub each_both : {A : Type 0} (P Q : A → Type 0) (xs : List A) → Each P xs → Each Q xs → Each (λ x. P x × Q x) xs
each_both P Q [] e f = tt
each_both P Q (x ∷ rest) e f = ((e.0, f.0), each_both P Q rest e.1 f.1)

pub each_append : {A : Type 0} (P : A → Type 0) (xs ys : List A) → Each P xs → Each P ys → Each P (xs ++ ys)
each_append P [] ys e f = f
each_append P (x ∷ rest) ys e f = (e.0, each_append P rest ys e.1 f)

pub each_map : {A B : Type 0} (P : A → Type 0) (Q : B → Type 0) (f : A → B) → ((x : A) → P x → Q (f x)) → (xs : List A) → Each P xs → Each Q (map f xs)
each_map P Q f h [] e = tt
each_map P Q f h (x ∷ rest) e = (h x e.0, each_map P Q f h rest e.1)

pub each_kept : {A : Type 0} (P Q : A → Type 0) (test : A → Bool) → ((x : A) → test x ≡ true → P x → Q x) → (xs : List A) → Each P xs → Each Q (keep test xs)
each_kept P Q test f [] e = tt
each_kept P Q test f (x ∷ rest) e = go (test x) refl (each_kept P Q test f rest e.1)
  where
    go : (t : Bool) → test x ≡ t → Each Q (keep test rest) → Each Q (keep test (x ∷ rest))
    go true p ih = simp p (f x p e.0, ih)
    go false p ih = simp p ih

-- ---- one of the numbers listed

-- what holds of each holds of one of them
pub one_of_lem : (P : ℕ → Type 0) (xs : List ℕ) (n : ℕ) → Each P xs → (n one_of xs) ≡ true → P n
one_of_lem P [] n a e = absurd (false≢true e)
one_of_lem P (x ∷ rest) n a e = go (n is x) refl (one_of_lem P rest n a.1)
  where
    go : (s : Bool) → (n is x) ≡ s → ((n one_of rest) ≡ true → P n) → P n
    go true p later = subst P (sym (eqb-true n x p)) a.0
    go false p later = later (simp p at e)

-- and a number that is none of them
pub none_of : (xs : List ℕ) (n : ℕ) → (n one_of xs) ≡ false → Each (λ x. (n is x) ≡ false) xs
none_of [] n e = tt
none_of (x ∷ rest) n e = let apart = neither (n is x) (n one_of rest) e in (apart.0, none_of rest n apart.1)
