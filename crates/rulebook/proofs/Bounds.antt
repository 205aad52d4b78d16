-- What the premise says of each number that a book keeps. Assumes nothing.
use Rattle.std.specs.Prelude.{if◌then◌else◌}
use mathlib.Core.Path.{◌≡◌, refl, subst}
use mathlib.Core.Bool.{Bool, true, false, false≢true}
use mathlib.Core.List.{List, [], ◌∷◌}
use Prim.Native.Nat.{ℕ, zero, suc, ◌+◌, ◌-◌, ◌*◌, ◌≤◌, ◌<◌, ◌^◌}
use native.Mathlib.Decide.{ℕ_discrete}
use native.Mathlib.Omega.{arith}
use borrow.Author.Tests.{eqb-true, eq-eqb}
use Rattle.rulebook.specs.declared.Security.{Security}
use Rattle.plain.specs.Lists.{◌is◌, some, total, sum_below, Each}
use Rattle.plain.proofs.Lists.{each_so, each_both}
use Rattle.rulebook.specs.Ledger.{Holdings, Ledger, issued_of, outside_of, held_of, cash_total, held}
use Rattle.rulebook.specs.declared.Account.{Account}
use Rattle.rulebook.specs.Premise.{with_code, SecurityFits, CashFits, Premise}
use Rattle.rulebook.proofs.Securities.{outs}
use Rattle.rulebook.proofs.Types.{type_fits}

-- a part is at most the sum
pub part-most : (n i : ℕ) (f : ℕ → ℕ) → i < n → f i ≤ sum_below n f
unfolding sum_below
part-most zero i f l = absurd (omega arith)
part-most (suc n) i f l = go (ℕ_discrete i n) (part-most n i f)
  where
    go : Dec (i ≡ n) → (i < n → f i ≤ sum_below n f) → f i ≤ sum_below n f + f n
    go (yes p) earlier = rw p (omega arith)
    go (no p) earlier = omega (arith, earlier (omega arith))

-- and so is a sum of the first parts
pub first-parts_most : (n k : ℕ) (f : ℕ → ℕ) → n ≤ k → sum_below n f ≤ sum_below k f
unfolding sum_below
first-parts_most n zero f l = let z : n ≡ 0 = omega arith in rw z (omega arith)
first-parts_most n (suc k) f l = go (ℕ_discrete n (suc k)) (first-parts_most n k f)
  where
    go : Dec (n ≡ suc k) → (n ≤ k → sum_below n f ≤ sum_below k f) → sum_below n f ≤ sum_below k f + f k
    go (yes p) earlier = rw p (omega arith)
    go (no p) earlier = omega (arith, earlier (omega arith))

-- an account's balance is at most what is held of its security
balance_held : (h : Holdings) (a : Account) → a.member < 2 ^ 10 → a.typ < 2 ^ 8 → a.shareholder < 2 ^ 30 → h.balance a ≤ held a.security h
unfolding held
balance_held h a m t k =
    let x = part-most (2 ^ 30) a.shareholder (λ s. h.balance (at a.member a.typ s)) k in
    let y = part-most (2 ^ 8) a.typ (λ t. sum_below (2 ^ 30) (λ s. h.balance (at a.member t s))) t in
    let z = part-most (2 ^ 10) a.member (λ m. sum_below (2 ^ 8) (λ t. sum_below (2 ^ 30) (λ s. h.balance (at m t s)))) m in
    omega (arith, x, y, z)
  where
    at : (m t s : ℕ) → Account
    at m t s = record { security = a.security; member = m; typ = t; shareholder = s }

issued_most : (c : ℕ) (xs : List Security) → Each SecurityFits xs → total (λ s. if s.code is c then s.issued.0 else 0) xs ≤ 1_099_511_627_775 * with_code c xs
issued_most c [] e = omega arith
issued_most c (x ∷ rest) e = go (x.code is c) refl (issued_most c rest e.1)
  where
    go :
        (t : Bool) → (x.code is c) ≡ t → total (λ s. if s.code is c then s.issued.0 else 0) rest ≤ 1_099_511_627_775 * with_code c rest
        → total (λ s. if s.code is c then s.issued.0 else 0) (x ∷ rest) ≤ 1_099_511_627_775 * with_code c (x ∷ rest)
    go true p ih = simp p (omega (arith, ih, e.0.issued_most))
    go false p ih = simp p (omega (arith, ih))

code_fits : (c : ℕ) (xs : List Security) → Each SecurityFits xs → some (λ s. s.code is c) xs ≡ true → (1 ≤ c) × (c < 2 ^ 14)
code_fits c [] e t = absurd (false≢true t)
code_fits c (x ∷ rest) e t = go (x.code is c) refl (code_fits c rest e.1)
  where
    go : (b : Bool) → (x.code is c) ≡ b → (some (λ s. s.code is c) rest ≡ true → (1 ≤ c) × (c < 2 ^ 14)) → (1 ≤ c) × (c < 2 ^ 14)
    go true p ih =
        let q = eqb-true x.code c p in
        let f = e.0 in
        (omega (arith, q, f.code_least), omega (arith, q, f.code_most))
    go false p ih = ih (simp p at t)

-- where no two have one code, a sum over a security's code is its own figure

no_code : (figure : Security → ℕ) (c : ℕ) (xs : List Security) → with_code c xs ≡ 0 → total (λ s. if s.code is c then figure s else 0) xs ≡ 0
no_code figure c [] e = refl
no_code figure c (x ∷ rest) e = go (x.code is c) refl (no_code figure c rest)
  where
    go :
        (t : Bool) → (x.code is c) ≡ t → (with_code c rest ≡ 0 → total (λ s. if s.code is c then figure s else 0) rest ≡ 0)
        → total (λ s. if s.code is c then figure s else 0) (x ∷ rest) ≡ 0
    go true p ih = absurd (omega (arith, simp p at e))
    go false p ih = simp p (omega (arith, ih (omega (arith, simp p at e))))

own_code : (xs : List Security) → Each (λ x. 1 ≤ with_code x.code xs) xs
own_code [] = tt
own_code (x ∷ rest) = (
  simp (eq-eqb x.code x.code refl) (omega arith),
  each_so (λ s. 1 ≤ with_code s.code rest) (λ s. 1 ≤ with_code s.code (x ∷ rest)) (λ s l. omega (arith, l))
      rest (own_code rest),
)

only :
    (figure : Security → ℕ) (xs : List Security) → ((c : ℕ) → with_code c xs ≤ 1)
    → Each (λ x. total (λ s. if s.code is x.code then figure s else 0) xs ≡ figure x) xs
only figure [] u = tt
only figure (x ∷ rest) u =
    let own : (x.code is x.code) ≡ true = eq-eqb x.code x.code refl in
    let z : with_code x.code rest ≡ 0 = omega (arith, simp own at (u x.code)) in (
      simp own (omega (arith, no_code figure x.code rest z)),
      each_so (λ s. (1 ≤ with_code s.code rest) × (total (λ y. if y.code is s.code then figure y else 0) rest ≡ figure s))
          (λ s. total (λ y. if y.code is s.code then figure y else 0) (x ∷ rest) ≡ figure s)
          (λ s e. later s (x.code is s.code) refl e)
          rest
          (each_both (λ s. 1 ≤ with_code s.code rest) (λ s. total (λ y. if y.code is s.code then figure y else 0) rest ≡ figure s) rest (own_code rest)
          (only figure rest (λ c. omega (arith, u c)))),
    )
  where
    later :
        (s : Security) (t : Bool) → (x.code is s.code) ≡ t → (1 ≤ with_code s.code rest)
        × (total (λ y. if y.code is s.code then figure y else 0) rest ≡ figure s)
        → total (λ y. if y.code is s.code then figure y else 0) (x ∷ rest) ≡ figure s
    later s true q e = absurd (omega (arith, e.0, simp q at (u s.code)))
    later s false q e = simp q (omega (arith, e.1))

outside-part : (xs : List Security) → Each (λ s. s.outside.0 ≤ outs s.code xs) xs
outside-part [] = tt
outside-part (x ∷ rest) = (
  simp (eq-eqb x.code x.code refl) (omega arith),
  each_so (λ s. s.outside.0 ≤ outs s.code rest) (λ s. s.outside.0 ≤ outs s.code (x ∷ rest))
      (λ s l. omega (arith, l)) rest (outside-part rest),
)

module _ (b : Ledger) (p : Premise b) where
  pub issued_fits : (security : ℕ) → issued_of security b.holdings < 2 ^ 40
  unfolding issued_of
  issued_fits c = omega (arith, issued_most c b.holdings.securities p.securities, p.codes c)

  pub outside-fits : (security : ℕ) → outside_of security b.holdings < 2 ^ 40
  outside-fits s = omega (arith, issued_fits s, p.issue s)

  pub held_fits : (security : ℕ) → held security b.holdings < 2 ^ 40
  held_fits s = omega (arith, issued_fits s, p.issue s)

  -- no two securities have one code, so the count of a code is that of its one security
  pub each_held : Each (λ s. s.held.0 ≡ held s.code b.holdings) b.holdings.securities
  unfolding held_of
  each_held =
      each_so (λ s. total (λ y. if y.code is s.code then y.held.0 else 0) b.holdings.securities ≡ s.held.0) (λ s. s.held.0 ≡ held s.code b.holdings)
      (λ s e. omega (arith, e, p.custody s.code)) b.holdings.securities (only (λ s. s.held.0) b.holdings.securities p.codes)

  pub no_cash : (m c : ℕ) → (CashFits m c → ⊥) → b.holdings.cash m c ≡ 0
  no_cash m c n = go (b.holdings.cash m c) refl
    where
      go : (k : ℕ) → b.holdings.cash m c ≡ k → b.holdings.cash m c ≡ 0
      go zero e = e
      go (suc k) e = absurd (n (p.cash m c (omega (arith, e))))

  -- every balance, also against the held count that is kept, and every member's cash
  balance_most : (a : Account) → b.holdings.balance a ≤ held a.security b.holdings
  balance_most a = go (b.holdings.balance a) refl
    where
      go : (k : ℕ) → b.holdings.balance a ≡ k → b.holdings.balance a ≤ held a.security b.holdings
      go zero e = omega (arith, e)
      go (suc k) e =
          let f = p.accounts a (omega (arith, e)) in
          balance_held b.holdings a (omega (arith, f.named.member_most)) (type_fits a.typ f.typ) f.named.shareholder_most

  pub balance_fits : (a : Account) → b.holdings.balance a < 2 ^ 40
  balance_fits a = omega (arith, balance_most a, held_fits a.security)

  pub balance_counted : (a : Account) → b.holdings.balance a ≤ held_of a.security b.holdings
  balance_counted a = omega (arith, balance_most a, p.custody a.security)

  pub count_fits : (security : ℕ) → held_of security b.holdings < 2 ^ 40
  count_fits s = omega (arith, held_fits s, p.custody s)

  pub cash_fits : (m c : ℕ) → b.holdings.cash m c ≤ 1_000_000_000_000_000
  unfolding cash_total
  cash_fits m c = go (b.holdings.cash m c) refl
    where
      go : (k : ℕ) → b.holdings.cash m c ≡ k → b.holdings.cash m c ≤ 1_000_000_000_000_000
      go zero e = omega (arith, e)
      go (suc k) e =
          let f = p.cash m c (omega (arith, e)) in
          let q : m - 1 + 1 ≡ m = omega (arith, f.member_least) in
          let l : b.holdings.cash (m - 1 + 1) c ≤ cash_total c b.holdings =
          part-most 64 (m - 1) (λ n. b.holdings.cash (n + 1) c) (omega (arith, f.member_least, f.member_most))
          in
          let l' : b.holdings.cash m c ≤ cash_total c b.holdings = subst (λ (x : ℕ). b.holdings.cash x c ≤ cash_total c b.holdings) q l in
          omega (arith, l', p.ceiling c)
