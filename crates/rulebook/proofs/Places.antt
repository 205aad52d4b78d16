-- What movements do to each place that a book keeps: they add what they bring, then take what they take. Assumes nothing.
use Rattle.std.specs.Prelude.{if◌then◌else◌}
use mathlib.Core.Path.{◌≡◌, refl, sym, ap, subst, ◌∙◌}
use mathlib.Core.Bool.{Bool, true, false, ◌&&◌, false≢true}
use mathlib.Core.List.{List, [], ◌∷◌}
use Prim.Native.Nat.{ℕ, ◌+◌, ◌-◌, ◌≤◌}
use native.Mathlib.Omega.{arith}
use borrow.Author.Tests.{eqb-true, eqb-false, ne_eqb}
use Rattle.plain.specs.Lists.{◌is◌, total}
use Rattle.plain.proofs.Tests.{both}
use Rattle.rulebook.specs.Ledger.{Holdings, same_account, outside_of, put_balance, put_cash, put_securities, put_outside, put_held, with_outside, with_held}
use Rattle.rulebook.specs.declared.Account.{Account}
use Rattle.rulebook.specs.Movements.{Place, account, type91, type90, cash_of, member0, Movement, move, credit, debit, credits, debits, recounted, booked, book_has, put_at}
use Rattle.rulebook.specs.Premise.{with_code}
use Rattle.rulebook.proofs.Accounts.{same_eq}
use Rattle.rulebook.proofs.Booking.{recounted-keeps, recounted-beside}
use Rattle.rulebook.proofs.Securities.{count_same, counts-kept, counts-put}

-- the place is an account, the outside count of a security, or a member's cash

abbrev pub is_account : Account → Place → Bool
is_account a (account b) = same_account b a
is_account a (type91 security) = false
is_account a (type90 security) = false
is_account a (cash_of member currency) = false
is_account a (member0 currency) = false

abbrev pub is_outside : ℕ → Place → Bool
is_outside s (account b) = false
is_outside s (type91 security) = security is s
is_outside s (type90 security) = false
is_outside s (cash_of member currency) = false
is_outside s (member0 currency) = false

abbrev pub is_cash : (member currency : ℕ) → Place → Bool
is_cash m c (account b) = false
is_cash m c (type91 security) = false
is_cash m c (type90 security) = false
is_cash m c (cash_of member currency) = member is m && currency is c
is_cash m c (member0 currency) = false

-- the second is the first, which a book keeps
abbrev pub is_at : Place → Place → Bool
is_at (account a) q = is_account a q
is_at (type91 security) q = is_outside security q
is_at (type90 security) q = false
is_at (cash_of member currency) q = is_cash member currency q
is_at (member0 currency) q = false

-- what movements bring to a place, and what they take from it
abbrev pub brought : Place → List Movement → ℕ
brought p ms = total (λ m. if is_at p m.to then m.number else 0) ms

abbrev pub taken : Place → List Movement → ℕ
taken p ms = total (λ m. if is_at p m.from then m.number else 0) ms

-- an outside count is that of one admitted security

abbrev pub Known : Holdings → Place → Type 0
Known h (account b) = Unit {0}
Known h (type91 security) = with_code security h.securities ≡ 1
Known h (type90 security) = Unit {0}
Known h (cash_of member currency) = Unit {0}
Known h (member0 currency) = Unit {0}

abbrev pub AllKnown : Holdings → List Movement → Type 0
AllKnown h [] = Unit {0}
AllKnown h (m ∷ rest) = Known h m.from × Known h m.to × AllKnown h rest

abbrev SameCodes : Holdings → Holdings → Type 0
SameCodes h k = (c : ℕ) → with_code c k.securities ≡ with_code c h.securities

known_same : (h k : Holdings) → SameCodes h k → (q : Place) → Known h q → Known k q
known_same h k e (account b) n = tt
known_same h k e (type91 security) n = e security ∙ n
known_same h k e (type90 security) n = tt
known_same h k e (cash_of member currency) n = tt
known_same h k e (member0 currency) n = tt

all-known_same : (h k : Holdings) → SameCodes h k → (ms : List Movement) → AllKnown h ms → AllKnown k ms
all-known_same h k e [] n = tt
all-known_same h k e (m ∷ rest) n = (known_same h k e m.from n.0, known_same h k e m.to n.1, all-known_same h k e rest n.2)

put-codes : (q : Place) (v : ℕ) (h : Holdings) → SameCodes h (put_at q v h)
unfolding put_balance put_cash put_securities put_outside
put-codes (account b) v h c = refl
put-codes (type91 security) v h c = count_same (with_outside v) (λ x. refl) security c h.securities
put-codes (type90 security) v h c = refl
put-codes (cash_of member currency) v h c = refl
put-codes (member0 currency) v h c = refl

credit-codes : (q : Place) (n : ℕ) (h : Holdings) → SameCodes h (credit q n h)
unfolding credit
credit-codes q n h = put-codes q _ h

debit-codes : (q : Place) (n : ℕ) (h : Holdings) → SameCodes h (debit q n h)
unfolding debit
debit-codes q n h = put-codes q _ h

credits-codes : (ms : List Movement) (h : Holdings) → SameCodes h (credits ms h)
unfolding credits
credits-codes [] h c = refl
credits-codes (m ∷ rest) h c = credits-codes rest (credit m.to m.number h) c ∙ credit-codes m.to m.number h c

debits-codes : (ms : List Movement) (h : Holdings) → SameCodes h (debits ms h)
unfolding debits
debits-codes [] h c = refl
debits-codes (m ∷ rest) h c = debits-codes rest (debit m.from m.number h) c ∙ debit-codes m.from m.number h c

recounted-codes : (ms : List Movement) (h : Holdings) → SameCodes h (recounted ms h)
unfolding put_held put_securities
recounted-codes ms h c =
    recounted-keeps (λ k. with_code c k.securities ≡ with_code c h.securities) (λ s v k e. count_same (with_held v) (λ x. refl) s c k.securities ∙ e) ms h refl

-- movements change no code
pub posted_codes : (ms : List Movement) (h : Holdings) → SameCodes h (debits ms (credits ms h))
posted_codes ms h c = debits-codes ms (credits ms h) c ∙ credits-codes ms h c

pub booked-codes : (ms : List Movement) (h : Holdings) (c : ℕ) → with_code c (booked ms h).securities ≡ with_code c h.securities
unfolding booked
booked-codes ms h c = recounted-codes ms (debits ms (credits ms h)) c ∙ posted_codes ms h c

-- what is put at one place

pub is_sym : (m n : ℕ) → (m is n) ≡ (n is m)
is_sym m n = go (n is m) refl
  where
    go : (t : Bool) → (n is m) ≡ t → (m is n) ≡ t
    go true e = rw (eqb-true n m e) (rw (eqb-true n m e) at e)
    go false e = ne_eqb m n (λ p. eqb-false n m e (sym p))

-- two places of which the second is the first are one place
same_place : (p q : Place) → is_at p q ≡ true → q ≡ p
same_place (account a) (account b) e = ap account (same_eq b a e)
same_place (type91 s) (type91 c) e = ap type91 (eqb-true c s e)
same_place (cash_of m c) (cash_of m' c') e =
    let b = both (m' is m) (c' is c) e in
    ap (λ (x : ℕ). cash_of x c') (eqb-true m' m b.0) ∙ ap (cash_of m) (eqb-true c' c b.1)
same_place (account a) (type91 s) e = absurd (false≢true e)
same_place (account a) (type90 s) e = absurd (false≢true e)
same_place (account a) (cash_of m c) e = absurd (false≢true e)
same_place (account a) (member0 c) e = absurd (false≢true e)
same_place (type91 s) (account b) e = absurd (false≢true e)
same_place (type91 s) (type90 c) e = absurd (false≢true e)
same_place (type91 s) (cash_of m c) e = absurd (false≢true e)
same_place (type91 s) (member0 c) e = absurd (false≢true e)
same_place (cash_of m c) (account b) e = absurd (false≢true e)
same_place (cash_of m c) (type91 s) e = absurd (false≢true e)
same_place (cash_of m c) (type90 s) e = absurd (false≢true e)
same_place (cash_of m c) (member0 s) e = absurd (false≢true e)
same_place (type90 s) q e = absurd (false≢true e)
same_place (member0 c) q e = absurd (false≢true e)

-- which only an outside count asks for
abbrev KnownFor : Place → Holdings → Place → Type 0
KnownFor (account a) h q = Unit {0}
KnownFor (type91 s) h q = Known h q
KnownFor (type90 s) h q = Unit {0}
KnownFor (cash_of m c) h q = Unit {0}
KnownFor (member0 c) h q = Unit {0}

known_for : (p : Place) (h : Holdings) (q : Place) → Known h q → KnownFor p h q
known_for (account a) h q k = tt
known_for (type91 s) h q k = k
known_for (type90 s) h q k = tt
known_for (cash_of m c) h q k = tt
known_for (member0 c) h q k = tt

-- a place has what was put there, and another what it had
put_has : (p q : Place) (v : ℕ) (h : Holdings) → KnownFor p h q → book_has p (put_at q v h) ≡ (if is_at p q then v else book_has p h)
unfolding put_balance put_cash put_securities put_outside outside_of
put_has (account a) (account b) v h k = refl
put_has (account a) (type91 s) v h k = refl
put_has (account a) (type90 s) v h k = refl
put_has (account a) (cash_of m c) v h k = refl
put_has (account a) (member0 c) v h k = refl
put_has (type91 s) (account b) v h k = refl
put_has (type91 s) (type91 c) v h k = counts-put (with_outside v) (λ x. refl) c (λ x. x.outside) v (λ x. refl) s h.securities k
put_has (type91 s) (type90 c) v h k = refl
put_has (type91 s) (cash_of m c) v h k = refl
put_has (type91 s) (member0 c) v h k = refl
put_has (type90 s) q v h k = refl
put_has (cash_of m c) (account b) v h k = refl
put_has (cash_of m c) (type91 s) v h k = refl
put_has (cash_of m c) (type90 s) v h k = refl
put_has (cash_of m c) (cash_of m' c') v h k = refl
put_has (cash_of m c) (member0 s) v h k = refl
put_has (member0 c) q v h k = refl

-- a held count is at no place
recounted-has : (p : Place) (ms : List Movement) (h : Holdings) → book_has p (recounted ms h) ≡ book_has p h
unfolding put_held put_securities outside_of
recounted-has (account a) ms h = ap (λ (f : Account → ℕ). f a) (recounted-beside ms h).balance
recounted-has (type91 s) ms h =
    recounted-keeps (λ k. outside_of s k ≡ outside_of s h)
    (λ c v k e. counts-kept (with_held v) (λ x. refl) c (λ x. x.outside) (λ x. refl) s k.securities ∙ e) ms h refl
recounted-has (type90 s) ms h = refl
recounted-has (cash_of m c) ms h = ap (λ (f : ℕ → ℕ → ℕ). f m c) (recounted-beside ms h).cash
recounted-has (member0 c) ms h = refl

-- one credit, one debit

module _ (p q : Place) (n : ℕ) (h : Holdings) (k : KnownFor p h q) where
  pub credit-kept : book_has p (credit q n h) ≡ book_has p h + (if is_at p q then n else 0)
  unfolding credit
  credit-kept = put_has p q (book_has q h + n) h k ∙ go (is_at p q) refl
    where
      go : (t : Bool) → is_at p q ≡ t → (if is_at p q then book_has q h + n else book_has p h) ≡ book_has p h + (if is_at p q then n else 0)
      go true e = simp e (ap (λ (x : Place). book_has x h + n) (same_place p q e))
      go false e = simp e (omega arith)

  pub debit-kept : book_has p (debit q n h) ≡ book_has p h - (if is_at p q then n else 0)
  unfolding debit
  debit-kept = put_has p q (book_has q h - n) h k ∙ go (is_at p q) refl
    where
      go : (t : Bool) → is_at p q ≡ t → (if is_at p q then book_has q h - n else book_has p h) ≡ book_has p h - (if is_at p q then n else 0)
      go true e = simp e (ap (λ (x : Place). book_has x h - n) (same_place p q e))
      go false e = simp e (omega arith)

-- what an account and a member's cash have
module _ (a : Account) (q : Place) (n : ℕ) (h : Holdings) where
  pub credit-balance : (credit q n h).balance a ≡ h.balance a + (if is_account a q then n else 0)
  credit-balance = credit-kept (account a) q n h tt

  pub debit-balance : (debit q n h).balance a ≡ h.balance a - (if is_account a q then n else 0)
  debit-balance = debit-kept (account a) q n h tt

module _ (m c : ℕ) (q : Place) (n : ℕ) (h : Holdings) where
  pub credit-cash : (credit q n h).cash m c ≡ h.cash m c + (if is_cash m c q then n else 0)
  credit-cash = credit-kept (cash_of m c) q n h tt

  pub debit-cash : (debit q n h).cash m c ≡ h.cash m c - (if is_cash m c q then n else 0)
  debit-cash = debit-kept (cash_of m c) q n h tt

-- lists of movements

module _ (p : Place) where
  credits-kept : (ms : List Movement) (h : Holdings) → AllKnown h ms → book_has p (credits ms h) ≡ book_has p h + brought p ms
  unfolding credits
  credits-kept [] h k = omega arith
  credits-kept (m ∷ rest) h k =
      let h' = credit m.to m.number h in
      omega (
        arith,
        credits-kept rest h' (all-known_same h h' (credit-codes m.to m.number h) rest k.2),
        credit-kept p m.to m.number h
            (known_for p h m.to k.1),
      )

  debits-kept : (ms : List Movement) (h : Holdings) → AllKnown h ms → book_has p (debits ms h) ≡ book_has p h - taken p ms
  unfolding debits
  debits-kept [] h k = omega arith
  debits-kept (m ∷ rest) h k =
      let h' = debit m.from m.number h in
      omega (
        arith,
        debits-kept rest h' (all-known_same h h' (debit-codes m.from m.number h) rest k.2),
        debit-kept p m.from m.number h
            (known_for p h m.from k.0),
      )

  booked-kept : (ms : List Movement) (h : Holdings) → AllKnown h ms → book_has p (booked ms h) ≡ book_has p h + brought p ms - taken p ms
  unfolding booked
  booked-kept ms h k =
      omega (
        arith,
        recounted-has p ms (debits ms (credits ms h)),
        debits-kept ms (credits ms h) (all-known_same h (credits ms h) (credits-codes ms h) ms k),
        credits-kept ms h k,
      )

-- no place is asked for more than it has and is brought
abbrev pub Enough : Holdings → List Movement → Type 0
Enough h ms = (p : Place) → taken p ms ≤ book_has p h + brought p ms

-- then nothing is cut off at 0: the law of movements
pub booked-exact :
    (ms : List Movement) (h : Holdings) → AllKnown h ms → Enough h ms → (p : Place) → book_has p (booked ms h) + taken p ms ≡ book_has p h + brought p ms
booked-exact ms h k e p = omega (arith, booked-kept p ms h k, e p)

-- one movement: its place can bear it

abbrev pub Bears : Holdings → Place → ℕ → Type 0
Bears h (account a) n = n ≤ h.balance a
Bears h (type91 security) n = n ≤ outside_of security h
Bears h (type90 security) n = Unit {0}
Bears h (cash_of member currency) n = n ≤ h.cash member currency
Bears h (member0 currency) n = Unit {0}

bears_there : (h : Holdings) (p : Place) (n : ℕ) → is_at p p ≡ true → Bears h p n → n ≤ book_has p h
bears_there h (account a) n e l = l
bears_there h (type91 s) n e l = l
bears_there h (type90 s) n e l = absurd (false≢true e)
bears_there h (cash_of m c) n e l = l
bears_there h (member0 c) n e l = absurd (false≢true e)

bears_any : (h : Holdings) (p q : Place) (n : ℕ) → Bears h q n → (if is_at p q then n else 0) ≤ book_has p h
bears_any h p q n l = go (is_at p q) refl
  where
    go : (t : Bool) → is_at p q ≡ t → (if is_at p q then n else 0) ≤ book_has p h
    go true e =
        let same = same_place p q e in
        simp e (bears_there h p n (subst (λ (x : Place). is_at p x ≡ true) same e) (subst (λ (x : Place). Bears h x n) same l))
    go false e = simp e (omega arith)

pub one_enough : (h : Holdings) (from to : Place) (n : ℕ) → Bears h from n → Enough h (move from to n ∷ [])
one_enough h from to n l p = omega (arith, bears_any h p from n l)
