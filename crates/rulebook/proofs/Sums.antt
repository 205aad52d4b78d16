-- What movements do to the sums that a book has: the shares held of a security, and a currency's total over all members. Assumes nothing.
use Rattle.std.specs.Prelude.{if◌then◌else◌}
use mathlib.Core.Path.{◌≡◌, refl, sym, ap₂, subst, ◌∙◌}
use mathlib.Core.Logic.{◌≢◌}
use mathlib.Core.Bool.{Bool, true, false, ◌&&◌, and-false}
use mathlib.Core.List.{List, [], ◌∷◌}
use Prim.Native.Nat.{ℕ, ◌+◌, ◌-◌, ◌≤◌, ◌<◌, ◌^◌}
use native.Mathlib.Omega.{arith}
use borrow.Author.Tests.{eqb-true, eqb-false, eq-eqb, ne_eqb}
use Rattle.plain.specs.Lists.{◌is◌, total, sum_below}
use Rattle.plain.proofs.Sums.{sum_same, sum-none, sum-add, sum-differs}
use Rattle.rulebook.specs.Ledger.{Holdings, fresh, same_account, put_balance, cash_total, held}
use Rattle.rulebook.specs.declared.Account.{Account}
use Rattle.rulebook.specs.Movements.{Place, account, type91, type90, cash_of, member0, Movement, book_has}
use Rattle.rulebook.proofs.Held.{held-put, held-put_other}
use Rattle.rulebook.proofs.Places.{is_at, brought, taken}
use Rattle.rulebook.proofs.Reading.{Proper, AllProper}

-- ---- shares held

-- a security's part of what goes to a place
abbrev pub into_held : ℕ → Place → ℕ → ℕ
into_held s (account a) n = if a.security is s then n else 0
into_held s (type91 security) n = 0
into_held s (type90 security) n = 0
into_held s (cash_of member currency) n = 0
into_held s (member0 currency) n = 0

abbrev pub held_into : ℕ → List Movement → ℕ
held_into s ms = total (λ m. into_held s m.to m.number) ms

abbrev pub held_out : ℕ → List Movement → ℕ
held_out s ms = total (λ m. into_held s m.from m.number) ms

module _ (s : ℕ) where
  -- the sum of a figure over the accounts of a security
  abbrev over_accounts : (Account → ℕ) → ℕ
  over_accounts f =
      sum_below (2 ^ 10) λ member. sum_below (2 ^ 8) λ typ. sum_below (2 ^ 30) λ shareholder.
      f (record { security = s; member = member; typ = typ; shareholder = shareholder })

  over-same : (f g : Account → ℕ) → ((a : Account) → g a ≡ f a) → over_accounts g ≡ over_accounts f
  over-same f g e = sum_same (2 ^ 10) _ _ (λ m _. sum_same (2 ^ 8) _ _ (λ t _. sum_same (2 ^ 30) _ _ (λ k _. e _)))

  over_zero : (f : Account → ℕ) → ((a : Account) → f a ≡ 0) → over_accounts f ≡ 0
  over_zero f e = sum-none (2 ^ 10) _ (λ m _. sum-none (2 ^ 8) _ (λ t _. sum-none (2 ^ 30) _ (λ k _. e _)))

  over_add : (f g : Account → ℕ) → over_accounts (λ a. f a + g a) ≡ over_accounts f + over_accounts g
  over_add f g =
      sum_same (2 ^ 10) _ _
      (λ m _. sum_same (2 ^ 8) _ _ (λ t _. sum-add (2 ^ 30) (λ k. f (at m t k)) (λ k. g (at m t k)))
      ∙ sum-add (2 ^ 8) (λ t. sum_below (2 ^ 30) (λ k. f (at m t k))) (λ t. sum_below (2 ^ 30) (λ k. g (at m t k))))
      ∙ sum-add (2 ^ 10) (λ m. sum_below (2 ^ 8) (λ t. sum_below (2 ^ 30) (λ k. f (at m t k))))
      (λ m. sum_below (2 ^ 8) (λ t. sum_below (2 ^ 30) (λ k. g (at m t k))))
    where
      at : (m t k : ℕ) → Account
      at m t k = record { security = s; member = m; typ = t; shareholder = k }

  pub none_held : held s fresh.holdings ≡ 0
  unfolding held fresh
  none_held = over_zero (λ a. 0) (λ a. refl)

  -- one account is one of those summed: it is the book that holds it alone
  spread_account : (b : Account) (n : ℕ) → b.member < 2 ^ 10 → b.typ < 2 ^ 8 → b.shareholder < 2 ^ 30
      → over_accounts (λ a. if same_account b a then n else 0) ≡ (if b.security is s then n else 0)
  unfolding held put_balance fresh
  spread_account b n m t k = go (b.security is s) refl
    where
      go : (x : Bool) → (b.security is s) ≡ x → over_accounts (λ a. if same_account b a then n else 0) ≡ (if b.security is s then n else 0)
      go true e =
          let p : held b.security (put_balance b n fresh.holdings) + 0 ≡ held b.security fresh.holdings + n = held-put fresh.holdings b n m t k in
          let q : held s (put_balance b n fresh.holdings) + 0 ≡ held s fresh.holdings + n =
          subst (λ (x : ℕ). held x (put_balance b n fresh.holdings) + 0 ≡ held x fresh.holdings + n) (eqb-true b.security s e) p
          in
          simp e (omega (arith, q, none_held))
      go false e = simp e (held-put_other fresh.holdings b n s (λ p. eqb-false b.security s e (sym p)) ∙ none_held)

  spread : (q : Place) (n : ℕ) → Proper q → over_accounts (λ a. if is_at (account a) q then n else 0) ≡ into_held s q n
  spread (account b) n f = spread_account b n f.1 f.2 f.3
  spread (type91 c) n f = over_zero (λ a. 0) (λ a. refl)
  spread (type90 c) n f = over_zero (λ a. 0) (λ a. refl)
  spread (cash_of m c) n f = over_zero (λ a. 0) (λ a. refl)
  spread (member0 c) n f = over_zero (λ a. 0) (λ a. refl)

  brought_sum : (ms : List Movement) → AllProper ms → over_accounts (λ a. brought (account a) ms) ≡ held_into s ms
  brought_sum [] f = over_zero (λ a. 0) (λ a. refl)
  brought_sum (m ∷ rest) f =
      over_add (λ a. if is_at (account a) m.to then m.number else 0) (λ a. brought (account a) rest)
      ∙ ap₂ ◌+◌ (spread m.to m.number f.1) (brought_sum rest f.3)

  taken_sum : (ms : List Movement) → AllProper ms → over_accounts (λ a. taken (account a) ms) ≡ held_out s ms
  taken_sum [] f = over_zero (λ a. 0) (λ a. refl)
  taken_sum (m ∷ rest) f =
      over_add (λ a. if is_at (account a) m.from then m.number else 0) (λ a. taken (account a) rest)
      ∙ ap₂ ◌+◌ (spread m.from m.number f.0) (taken_sum rest f.3)

  -- what is held changes by what the movements bring and take
  pub held-exact :
      (ms : List Movement) (h k : Holdings) → AllProper ms → ((p : Place) → book_has p k + taken p ms ≡ book_has p h + brought p ms)
      → held s k + held_out s ms ≡ held s h + held_into s ms
  unfolding held
  held-exact ms h k f e =
      let l = over_add k.balance (λ a. taken (account a) ms) in
      let r = over_add h.balance (λ a. brought (account a) ms) in
      let x = over-same (λ a. h.balance a + brought (account a) ms) (λ a. k.balance a + taken (account a) ms) (λ a. e (account a)) in
      omega (arith, l, r, x, brought_sum ms f, taken_sum ms f)

-- ---- cash

-- a currency's part of what goes to a place
abbrev pub into_cash : ℕ → Place → ℕ → ℕ
into_cash c (account a) n = 0
into_cash c (type91 s) n = 0
into_cash c (type90 s) n = 0
into_cash c (cash_of member currency) n = if currency is c then n else 0
into_cash c (member0 currency) n = 0

abbrev pub cash_into : ℕ → List Movement → ℕ
cash_into c ms = total (λ m. into_cash c m.to m.number) ms

abbrev pub cash_out : ℕ → List Movement → ℕ
cash_out c ms = total (λ m. into_cash c m.from m.number) ms

-- one member's cash is one of the 64
spread_cash : (m c c' k : ℕ) → 1 ≤ m → m ≤ 64 → sum_below 64 (λ n. if m is (n + 1) && c' is c then k else 0) ≡ (if c' is c then k else 0)
spread_cash m c c' k l u = go (c' is c) refl
  where
    go : (t : Bool) → (c' is c) ≡ t → sum_below 64 (λ n. if m is (n + 1) && c' is c then k else 0) ≡ (if c' is c then k else 0)
    go false e = simp (e, and-false) (sum-none 64 _ (λ j _. refl))
    go true e =
        let g : ℕ → ℕ = λ n. if m is (n + 1) && true then k else 0 in
        let at : g (m - 1) ≡ k = simp (eq-eqb m (m - 1 + 1) (omega arith)) in
        let off : (j : ℕ) → j ≢ m - 1 → g j ≡ 0 = λ j p. simp (ne_eqb m (j + 1) (λ q. p (omega arith))) in
        let s = sum-differs 64 (m - 1) 0 k (λ n. 0) g (omega arith) off (omega (arith, at)) in
        let z = sum-none 64 (λ n. 0) (λ j _. refl) in
        simp e (omega (arith, s, z))

spread_to : (c : ℕ) (q : Place) (k : ℕ) → Proper q → sum_below 64 (λ n. if is_at (cash_of (n + 1) c) q then k else 0) ≡ into_cash c q k
spread_to c (account a) k f = sum-none 64 _ (λ j _. refl)
spread_to c (type91 s) k f = sum-none 64 _ (λ j _. refl)
spread_to c (type90 s) k f = sum-none 64 _ (λ j _. refl)
spread_to c (cash_of m c') k f = spread_cash m c c' k f.0 f.1
spread_to c (member0 c') k f = sum-none 64 _ (λ j _. refl)

brought_cash : (c : ℕ) (ms : List Movement) → AllProper ms → sum_below 64 (λ n. brought (cash_of (n + 1) c) ms) ≡ cash_into c ms
brought_cash c [] f = sum-none 64 _ (λ j _. refl)
brought_cash c (m ∷ rest) f =
    sum-add 64 (λ n. if is_at (cash_of (n + 1) c) m.to then m.number else 0) (λ n. brought (cash_of (n + 1) c) rest)
    ∙ ap₂ ◌+◌ (spread_to c m.to m.number f.1) (brought_cash c rest f.3)

taken_cash : (c : ℕ) (ms : List Movement) → AllProper ms → sum_below 64 (λ n. taken (cash_of (n + 1) c) ms) ≡ cash_out c ms
taken_cash c [] f = sum-none 64 _ (λ j _. refl)
taken_cash c (m ∷ rest) f =
    sum-add 64 (λ n. if is_at (cash_of (n + 1) c) m.from then m.number else 0) (λ n. taken (cash_of (n + 1) c) rest)
    ∙ ap₂ ◌+◌ (spread_to c m.from m.number f.0) (taken_cash c rest f.3)

-- the totals change by what the movements bring and take
pub cash_exact :
    (ms : List Movement) (h k : Holdings) → AllProper ms → ((p : Place) → book_has p k + taken p ms ≡ book_has p h + brought p ms) → (c : ℕ)
    → cash_total c k + cash_out c ms ≡ cash_total c h + cash_into c ms
unfolding cash_total
cash_exact ms h k f e c =
    let l = sum-add 64 (λ n. k.cash (n + 1) c) (λ n. taken (cash_of (n + 1) c) ms) in
    let r = sum-add 64 (λ n. h.cash (n + 1) c) (λ n. brought (cash_of (n + 1) c) ms) in
    let s =
    sum_same 64 (λ n. h.cash (n + 1) c + brought (cash_of (n + 1) c) ms) (λ n. k.cash (n + 1) c + taken (cash_of (n + 1) c) ms)
    (λ j i. e (cash_of (j + 1) c))
    in
    omega (arith, l, r, s, brought_cash c ms f, taken_cash c ms f)

pub none_paid : (c : ℕ) → cash_total c fresh.holdings ≡ 0
unfolding cash_total fresh
none_paid c = sum-none 64 _ (λ n _. refl)
