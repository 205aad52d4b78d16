-- Securities by their codes: their counts where one of them is changed, and issued counts, which no movement changes. Assumes nothing.
use Rattle.std.specs.Prelude.{if◌then◌else◌}
use mathlib.Core.Path.{◌≡◌, refl, sym, subst, ◌∙◌}
use mathlib.Core.Bool.{Bool, true, false, false≢true, true≢false}
use mathlib.Core.List.{List, [], ◌∷◌, ◌++◌, map}
use Prim.Native.Nat.{ℕ, ◌+◌, ◌≤◌}
use native.Mathlib.Omega.{arith}
use borrow.Author.Tests.{eqb-true}
use Rattle.rulebook.specs.declared.Security.{Security}
use Rattle.rulebook.specs.declared.Shares.{Shares}
use Rattle.plain.specs.Lists.{◌is◌, some, total}
use Rattle.plain.proofs.Lists.{total-append, total-map}
use Rattle.rulebook.specs.Ledger.{Holdings, issued_of, put_balance, put_cash, put_securities, put_outside, put_held, with_outside, with_held}
use Rattle.rulebook.specs.Movements.{Movement, booked}
use Rattle.rulebook.specs.Premise.{with_code}
use Rattle.rulebook.proofs.Booking.{booked-puts}

-- a count of a code's securities, and the securities of a code changed
abbrev pub count_in : (Security → Shares) → ℕ → List Security → ℕ
count_in count c xs = total (λ x. if x.code is c then (count x).0 else 0) xs

abbrev pub changed : ℕ → (Security → Security) → Security → Security
changed c change x = if x.code is c then change x else x

abbrev pub outs : ℕ → List Security → ℕ
outs = count_in (λ x. x.outside)

-- a change of a security that keeps its code, made of those of a code
module _ (change : Security → Security) (coded : (x : Security) → (change x).code ≡ x.code) (c : ℕ) where
  pub count_same : (k : ℕ) (xs : List Security) → with_code k (map (changed c change) xs) ≡ with_code k xs
  count_same k xs = total-map _ _ (changed c change) (λ x. go x (x.code is c)) xs
    where
      go : (x : Security) (t : Bool) → ◌≡◌ {A = ℕ} (if (if t then change x else x).code is k then 1 else 0) (if x.code is k then 1 else 0)
      go x true = rw (coded x)
      go x false = refl

  module _ (count : Security → Shares) where
    -- a count that it keeps
    pub counts-kept :
        ((x : Security) → count (change x) ≡ count x) → (s : ℕ) (xs : List Security) → count_in count s (map (changed c change) xs) ≡ count_in count s xs
    counts-kept same s xs = total-map _ _ (changed c change) (λ x. go x (x.code is c)) xs
      where
        go :
            (x : Security) (t : Bool) → (if (if t then change x else x).code is s then (count (if t then change x else x)).0 else 0)
            ≡ (if x.code is s then (count x).0 else 0)
        go x true = λ i. if coded x i is s then (same x i).0 else 0
        go x false = refl

    counts-other : (s : ℕ) → (c is s) ≡ false → (xs : List Security) → count_in count s (map (changed c change) xs) ≡ count_in count s xs
    counts-other s n xs = total-map _ _ (changed c change) (λ x. go x (x.code is c) refl) xs
      where
        go :
            (x : Security) (t : Bool) → (x.code is c) ≡ t
            → (if (if t then change x else x).code is s then (count (if t then change x else x)).0 else 0) ≡ (if x.code is s then (count x).0 else 0)
        go x true p =
            let q : (x.code is s) ≡ false = subst (λ (k : ℕ). (k is s) ≡ false) (sym (eqb-true x.code c p)) n in
            rw (coded x, q)
        go x false p = refl

    -- a count that it sets
    module _ (v : ℕ) (sets : (x : Security) → (count (change x)).0 ≡ v) where
      counts-none : (xs : List Security) → with_code c xs ≡ 0 → count_in count c (map (changed c change) xs) ≡ 0
      counts-none [] e = refl
      counts-none (x ∷ rest) e = go (x.code is c) refl (counts-none rest)
        where
          go :
              (t : Bool) → (x.code is c) ≡ t → (with_code c rest ≡ 0 → count_in count c (map (changed c change) rest) ≡ 0)
              → count_in count c (map (changed c change) (x ∷ rest)) ≡ 0
          go true p ih = absurd (omega (arith, simp p at e))
          go false p ih = simp p (omega (arith, ih (omega (arith, simp p at e))))

      counts-one : (xs : List Security) → with_code c xs ≡ 1 → count_in count c (map (changed c change) xs) ≡ v
      counts-one [] e = absurd (omega arith)
      counts-one (x ∷ rest) e = go (x.code is c) refl (counts-one rest)
        where
          go :
              (t : Bool) → (x.code is c) ≡ t → (with_code c rest ≡ 1 → count_in count c (map (changed c change) rest) ≡ v)
              → count_in count c (map (changed c change) (x ∷ rest)) ≡ v
          go true p ih = simp (p, coded x) (omega (arith, sets x, counts-none rest (omega (arith, simp p at e))))
          go false p ih = simp p (omega (arith, ih (omega (arith, simp p at e))))

      pub counts-put :
          (s : ℕ) (xs : List Security) → with_code c xs ≡ 1 → count_in count s (map (changed c change) xs) ≡ (if c is s then v else count_in count s xs)
      counts-put s xs k = go (c is s) refl
        where
          go : (t : Bool) → (c is s) ≡ t → count_in count s (map (changed c change) xs) ≡ (if c is s then v else count_in count s xs)
          go true p = simp p (subst (λ (x : ℕ). count_in count x (map (changed c change) xs) ≡ v) (eqb-true c s p) (counts-one xs k))
          go false p = simp p (counts-other s p xs)

pub known : (c : ℕ) (xs : List Security) → some (λ x. x.code is c) xs ≡ true → 1 ≤ with_code c xs
known c [] e = absurd (false≢true e)
known c (x ∷ rest) e = go (x.code is c) refl (known c rest)
  where
    go : (t : Bool) → (x.code is c) ≡ t → (some (λ x. x.code is c) rest ≡ true → 1 ≤ with_code c rest) → 1 ≤ with_code c (x ∷ rest)
    go true p ih = simp p (omega arith)
    go false p ih = simp p (omega (arith, ih (simp p at e)))

pub unknown : (c : ℕ) (xs : List Security) → some (λ x. x.code is c) xs ≡ false → with_code c xs ≡ 0
unknown c [] e = refl
unknown c (x ∷ rest) e = go (x.code is c) refl (unknown c rest)
  where
    go : (t : Bool) → (x.code is c) ≡ t → (some (λ x. x.code is c) rest ≡ false → with_code c rest ≡ 0) → with_code c (x ∷ rest) ≡ 0
    go true p ih = absurd (true≢false (simp p at e))
    go false p ih = simp p (omega (arith, ih (simp p at e)))

-- a new code
pub new_count :
    (c k : ℕ) (xs : List Security) (new : Security) → new.code ≡ c → with_code c xs ≡ 0 → ((j : ℕ) → with_code j xs ≤ 1) → with_code k (xs ++ (new ∷ [])) ≤ 1
new_count c k xs new e z d = simp total-append (go (new.code is k) refl)
  where
    go : (t : Bool) → (new.code is k) ≡ t → with_code k xs + ((if new.code is k then 1 else 0) + 0) ≤ 1
    go true p =
        let q : with_code k xs ≡ 0 = subst (λ (j : ℕ). with_code j xs ≡ 0) (sym e ∙ eqb-true new.code k p) z in
        simp p (omega arith)
    go false p = simp p (omega (arith, d k))

-- and one of which a count is 0
pub new_none :
    (count : Security → Shares) (new : Security) → (count new).0 ≡ 0 → (s : ℕ) (xs : List Security) → count_in count s (xs ++ (new ∷ [])) ≡ count_in count s xs
new_none count new z s xs = simp (total-append, z) (go (new.code is s) (count_in count s xs))
  where
    go : (t : Bool) (n : ℕ) → n + ((if t then 0 else 0) + 0) ≡ n
    go true n = omega arith
    go false n = omega arith

-- issued counts

module _ (s : ℕ) where
  pub booked-issued : (ms : List Movement) (h : Holdings) → issued_of s (booked ms h) ≡ issued_of s h
  unfolding issued_of put_balance put_cash put_outside put_held put_securities
  booked-issued ms h =
      booked-puts (λ k. issued_of s k ≡ issued_of s h) (λ a v k e. e)
      (λ c v k e. counts-kept (with_outside v) (λ x. refl) c (λ x. x.issued) (λ x. refl) s k.securities ∙ e) (λ m c v k e. e)
      (λ c v k e. counts-kept (with_held v) (λ x. refl) c (λ x. x.issued) (λ x. refl) s k.securities ∙ e) ms h refl

  pub new_issued :
      (h : Holdings) (new : Security) → issued_of s (put_securities (h.securities ++ (new ∷ [])) h) ≡ issued_of s h + (if new.code is s then new.issued.0 else 0)
  unfolding issued_of put_securities
  new_issued h new = simp total-append (omega arith)
