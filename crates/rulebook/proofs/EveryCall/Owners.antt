-- Parts 3 and 4 of the premise: what a security is, who has a balance and who has cash, kept by movements to such. Assumes nothing.
use Rattle.std.specs.Prelude.{if◌then◌else◌}
use mathlib.Core.Path.{◌≡◌, refl, ap, subst}
use mathlib.Core.Bool.{Bool, true, false, false≢true}
use mathlib.Core.List.{List, [], ◌∷◌, map}
use Prim.Native.Nat.{ℕ, zero, suc, ◌+◌, ◌≤◌}
use native.Mathlib.Omega.{arith}
use borrow.Author.Tests.{eqb-true}
use Rattle.rulebook.specs.declared.Security.{Security}
use Rattle.plain.specs.Lists.{◌is◌, some, Each}
use Rattle.plain.proofs.Tests.{both}
use Rattle.rulebook.specs.Ledger.{Holdings, fresh, admitted, put_balance, put_cash, put_securities, put_outside, put_held, with_outside, with_held}
use Rattle.rulebook.specs.declared.Account.{Account}
use Rattle.rulebook.specs.Movements.{Place, account, type91, type90, cash_of, member0, Movement, credit, debit, credits, debits, booked}
use Rattle.rulebook.specs.Premise.{with_code, SecurityFits, AccountFits, CashFits}
use Rattle.rulebook.proofs.Accounts.{same_eq}
use Rattle.rulebook.proofs.Securities.{changed, known, unknown}
use Rattle.rulebook.proofs.Places.{is_account, is_cash, brought, credit-balance, debit-balance, credit-cash, debit-cash, booked-codes}
use Rattle.rulebook.proofs.Booking.{recounted-beside, booked-puts}

-- an admitted security stays admitted

found : (c : ℕ) (xs : List Security) → 1 ≤ with_code c xs → some (λ s. s.code is c) xs ≡ true
found c xs l = go (some (λ s. s.code is c) xs) refl
  where
    go : (t : Bool) → some (λ s. s.code is c) xs ≡ t → some (λ s. s.code is c) xs ≡ true
    go true e = e
    go false e = absurd (omega (arith, unknown c xs e))

pub still_admitted : (c : ℕ) (h k : Holdings) → with_code c h.securities ≤ with_code c k.securities → admitted c h ≡ true → admitted c k ≡ true
unfolding admitted
still_admitted c h k l e = found c k.securities (omega (arith, known c h.securities e))

pub booked-admitted : (ms : List Movement) (h : Holdings) (c : ℕ) → admitted c h ≡ true → admitted c (booked ms h) ≡ true
booked-admitted ms h c = still_admitted c h (booked ms h) (omega (arith, booked-codes ms h c))

-- a security keeps its code and its issued count

module _ (change : Security → Security) (keeps : (x : Security) → SecurityFits x → SecurityFits (change x)) where
  changed-fits : (c : ℕ) (xs : List Security) → Each SecurityFits xs → Each SecurityFits (map (changed c change) xs)
  changed-fits c [] e = tt
  changed-fits c (x ∷ rest) e = (go (x.code is c), changed-fits c rest e.1)
    where
      go : (t : Bool) → SecurityFits (if t then change x else x)
      go true = keeps x e.0
      go false = e.0

booked-fits : (ms : List Movement) (h : Holdings) → Each SecurityFits h.securities → Each SecurityFits (booked ms h).securities
unfolding put_balance put_cash put_securities put_outside put_held
booked-fits ms h =
    booked-puts (λ k. Each SecurityFits k.securities) (λ a v k e. e) (λ s v k. changed-fits (with_outside v) outside s k.securities)
    (λ m c v k e. e) (λ s v k. changed-fits (with_held v) held s k.securities) ms h
  where
    outside : {v : ℕ} (x : Security) → SecurityFits x → SecurityFits (with_outside v x)
    outside x f = record { code_least = f.code_least; code_most = f.code_most; issued_least = f.issued_least; issued_most = f.issued_most }

    held : {v : ℕ} (x : Security) → SecurityFits x → SecurityFits (with_held v x)
    held x f = record { code_least = f.code_least; code_most = f.code_most; issued_least = f.issued_least; issued_most = f.issued_most }

-- what a place has after movements it had, or they brought

module _ (a : Account) where
  credits-most : (ms : List Movement) (h : Holdings) → (credits ms h).balance a ≤ h.balance a + brought (account a) ms
  unfolding credits
  credits-most [] h = omega arith
  credits-most (m ∷ rest) h = omega (arith, credits-most rest (credit m.to m.number h), credit-balance a m.to m.number h)

  debits-most : (ms : List Movement) (h : Holdings) → (debits ms h).balance a ≤ h.balance a
  unfolding debits
  debits-most [] h = omega arith
  debits-most (m ∷ rest) h = omega (arith, debits-most rest (debit m.from m.number h), debit-balance a m.from m.number h)

  booked-most : (ms : List Movement) (h : Holdings) → (booked ms h).balance a ≤ h.balance a + brought (account a) ms
  unfolding booked
  booked-most ms h =
      let same = ap (λ (f : Account → ℕ). f a) (recounted-beside ms (debits ms (credits ms h))).balance in
      omega (arith, same, debits-most ms (credits ms h), credits-most ms h)

module _ (m c : ℕ) where
  credits-most_cash : (ms : List Movement) (h : Holdings) → (credits ms h).cash m c ≤ h.cash m c + brought (cash_of m c) ms
  unfolding credits
  credits-most_cash [] h = omega arith
  credits-most_cash (x ∷ rest) h = omega (arith, credits-most_cash rest (credit x.to x.number h), credit-cash m c x.to x.number h)

  debits-most_cash : (ms : List Movement) (h : Holdings) → (debits ms h).cash m c ≤ h.cash m c
  unfolding debits
  debits-most_cash [] h = omega arith
  debits-most_cash (x ∷ rest) h = omega (arith, debits-most_cash rest (debit x.from x.number h), debit-cash m c x.from x.number h)

  booked-most_cash : (ms : List Movement) (h : Holdings) → (booked ms h).cash m c ≤ h.cash m c + brought (cash_of m c) ms
  unfolding booked
  booked-most_cash ms h =
      let same = ap (λ (f : ℕ → ℕ → ℕ). f m c) (recounted-beside ms (debits ms (credits ms h))).cash in
      omega (arith, same, debits-most_cash ms (credits ms h), credits-most_cash ms h)

-- a place that may be credited

abbrev pub Gets : Holdings → Place → Type 0
Gets h (account a) = AccountFits h a
Gets h (type91 security) = Unit {0}
Gets h (type90 security) = Unit {0}
Gets h (cash_of member currency) = CashFits member currency
Gets h (member0 currency) = Unit {0}

abbrev pub AllGet : Holdings → List Movement → Type 0
AllGet h [] = Unit {0}
AllGet h (m ∷ rest) = Gets h m.to × AllGet h rest

gets_account : (h : Holdings) (a : Account) (q : Place) → Gets h q → is_account a q ≡ true → AccountFits h a
gets_account h a (account b) g e = subst (AccountFits h) (same_eq b a e) g
gets_account h a (type91 s) g e = absurd (false≢true e)
gets_account h a (type90 s) g e = absurd (false≢true e)
gets_account h a (cash_of m c) g e = absurd (false≢true e)
gets_account h a (member0 c) g e = absurd (false≢true e)

gets_cash : (h : Holdings) (m c : ℕ) (q : Place) → Gets h q → is_cash m c q ≡ true → CashFits m c
gets_cash h m c (account b) g e = absurd (false≢true e)
gets_cash h m c (type91 s) g e = absurd (false≢true e)
gets_cash h m c (type90 s) g e = absurd (false≢true e)
gets_cash h m c (cash_of m' c') g e =
    let b = both (m' is m) (c' is c) e in
    subst (λ (x : ℕ). CashFits x c) (eqb-true m' m b.0) (subst (λ (x : ℕ). CashFits m' x) (eqb-true c' c b.1) g)
gets_cash h m c (member0 c') g e = absurd (false≢true e)

brought_account : (h : Holdings) (a : Account) (ms : List Movement) → AllGet h ms → 1 ≤ brought (account a) ms → AccountFits h a
brought_account h a [] g l = absurd (omega arith)
brought_account h a (m ∷ rest) g l = go (is_account a m.to) refl (brought_account h a rest g.1)
  where
    go : (t : Bool) → is_account a m.to ≡ t → (1 ≤ brought (account a) rest → AccountFits h a) → AccountFits h a
    go true e later = gets_account h a m.to g.0 e
    go false e later = later (omega (arith, simp e at l))

brought_cash : (h : Holdings) (m c : ℕ) (ms : List Movement) → AllGet h ms → 1 ≤ brought (cash_of m c) ms → CashFits m c
brought_cash h m c [] g l = absurd (omega arith)
brought_cash h m c (x ∷ rest) g l = go (is_cash m c x.to) refl (brought_cash h m c rest g.1)
  where
    go : (t : Bool) → is_cash m c x.to ≡ t → (1 ≤ brought (cash_of m c) rest → CashFits m c) → CashFits m c
    go true e later = gets_cash h m c x.to g.0 e
    go false e later = later (omega (arith, simp e at l))

either : (A : Type 0) (x y z : ℕ) → x ≤ y + z → 1 ≤ x → (1 ≤ y → A) → (1 ≤ z → A) → A
either A x zero z l k f g = g (omega arith)
either A x (suc y) z l k f g = f (omega arith)

-- who holds what

pub record Owned (h : Holdings) : Type 0 where
  pub securities : Each SecurityFits h.securities
  pub accounts : (a : Account) → 1 ≤ h.balance a → AccountFits h a
  pub cash : (member currency : ℕ) → 1 ≤ h.cash member currency → CashFits member currency

pub fresh-owned : Owned fresh.holdings
unfolding fresh
fresh-owned = record { securities = tt; accounts = λ a l. absurd (omega arith); cash = λ m c l. absurd (omega arith) }

pub account_admitted : (h k : Holdings) → ((c : ℕ) → admitted c h ≡ true → admitted c k ≡ true) → (a : Account) → AccountFits h a → AccountFits k a
account_admitted h k e a f = record { security = e a.security f.security; named = f.named; typ = f.typ }

pub booked-owned : (ms : List Movement) (h : Holdings) → AllGet h ms → Owned h → Owned (booked ms h)
booked-owned ms h g o = record {
  securities = booked-fits ms h o.securities;
  accounts = λ a l.
      account_admitted h (booked ms h) (booked-admitted ms h) a
      (either (AccountFits h a) ((booked ms h).balance a) (h.balance a) (brought (account a) ms) (booked-most a ms h) l (o.accounts a)
      (brought_account h a ms g));
  cash = λ m c l.
      either (CashFits m c) ((booked ms h).cash m c) (h.cash m c) (brought (cash_of m c) ms) (booked-most_cash m c ms h) l (o.cash m c) (brought_cash h m c ms g);
}
