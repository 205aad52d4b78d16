-- Nothing is short at any place exactly where no trade that is in debits a short one. Assumes nothing.
use mathlib.Core.Path.{◌≡◌, refl, sym, ◌∙◌}
use mathlib.Core.Bool.{Bool, true, false, ◌&&◌, false≢true, or-true}
use mathlib.Core.List.{List, [], ◌∷◌, ◌++◌}
use Prim.Native.Nat.{ℕ, zero, suc, ◌<◌}
use native.Mathlib.Omega.{arith}
use borrow.Author.Tests.{eqb-true, ne_eqb}
use Rattle.rulebook.specs.declared.Account.{Account}
use Rattle.rulebook.specs.declared.Item.{Item}
use Rattle.plain.specs.Lists.{◌is◌, ◌is_not◌, some, total}
use Rattle.rulebook.specs.Ledger.{Holdings, same_account}
use Rattle.rulebook.specs.Movements.{Place, account, type91, type90, cash_of, member0}
use Rattle.plain.proofs.Lists.{total-append}
use Rattle.plain.proofs.Tests.{both, or_cases}
use Rattle.rulebook.proofs.Accounts.{same_eq}
use Rattle.rulebook.specs.Shortfall.{seller, takes, brings, missing, NothingShort, delivers, pays, debits_short, any_short}
use Rattle.rulebook.specs.Selected.{SomethingShort}

-- what two lists of trades take and bring is the same
abbrev pub SameTotals : List Item → List Item → Type 0
SameTotals ts us = (figure : Item → ℕ) → total figure ts ≡ total figure us

pub missing-same : (h : Holdings) (ts us : List Item) → SameTotals ts us → (p : Place) → missing h ts p ≡ missing h us p
unfolding missing
missing-same h ts us e p = omega (arith, e (takes p), e (brings p))

pub covered_same : (h : Holdings) (ts us : List Item) → SameTotals ts us → NothingShort h ts → NothingShort h us
covered_same h ts us e q p = sym (missing-same h ts us e p) ∙ q p

pub above_zero : (n : ℕ) → 0 < n → (n is_not 0) ≡ true
above_zero n l = simp (ne_eqb n 0 (λ e. omega arith))

pub zero_above : (n : ℕ) → (n is_not 0) ≡ true → 0 < n
zero_above zero e = absurd (false≢true e)
zero_above (suc n) e = omega arith

-- ---- who takes from a place

-- a place that no trade takes from misses nothing
total-none : (figure : Item → ℕ) → ((t : Item) → figure t ≡ 0) → (ts : List Item) → total figure ts ≡ 0
total-none figure z [] = refl
total-none figure z (t ∷ ts) = omega (arith, z t, total-none figure z ts)

pub no_takes : (h : Holdings) (ts : List Item) (p : Place) → ((t : Item) → takes p t ≡ 0) → missing h ts p ≡ 0
unfolding missing
no_takes h ts p z = omega (arith, total-none (takes p) z ts)

-- trades take from accounts and cash alone
pub by_places :
    (h : Holdings) (ts : List Item) → ((a : Account) → missing h ts (account a) ≡ 0) → ((m c : ℕ) → missing h ts (cash_of m c) ≡ 0) → NothingShort h ts
unfolding takes
by_places h ts shares cash (account a) = shares a
by_places h ts shares cash (type91 s) = no_takes h ts (type91 s) (λ t. refl)
by_places h ts shares cash (type90 s) = no_takes h ts (type90 s) (λ t. refl)
by_places h ts shares cash (cash_of m c) = cash m c
by_places h ts shares cash (member0 c) = no_takes h ts (member0 c) (λ t. refl)

-- shares are taken from the seller's account, cash from the buyer's
pub takes-seller : (a : Account) (t : Item) → 0 < takes (account a) t → seller t ≡ a
unfolding takes
takes-seller a t l = go (same_account (seller t) a) refl
  where
    go : (s : Bool) → same_account (seller t) a ≡ s → seller t ≡ a
    go true e = same_eq (seller t) a e
    go false e = absurd (omega (arith, simp e at l))

takes-payer : (m c : ℕ) (t : Item) → 0 < takes (cash_of m c) t → (t.credited.member ≡ m) × (t.currency ≡ c)
unfolding takes
takes-payer m c t l = go (t.credited.member is m && t.currency is c) refl
  where
    go : (s : Bool) → (t.credited.member is m && t.currency is c) ≡ s → (t.credited.member ≡ m) × (t.currency ≡ c)
    go true e = let b = both (t.credited.member is m) (t.currency is c) e in (eqb-true t.credited.member m b.0, eqb-true t.currency c b.1)
    go false e = absurd (omega (arith, simp e at l))

-- a test that all pass who take from a place is passed by one of those that take something there
pub some-takes :
    (p : Place) (test : Item → Bool) → ((t : Item) → 0 < takes p t → test t ≡ true) → (us : List Item) → 0 < total (takes p) us
    → some test us ≡ true
some-takes p test f [] l = absurd (omega arith)
some-takes p test f (t ∷ us) l = go (takes p t) refl (some-takes p test f us)
  where
    go : (n : ℕ) → takes p t ≡ n → (0 < total (takes p) us → some test us ≡ true) → some test (t ∷ us) ≡ true
    go zero e ih = simp (ih (omega arith), or-true)
    go (suc n) e ih = simp (f t (omega arith))

-- what is missing is less than what is taken
pub missing-taken : (h : Holdings) (ts : List Item) (p : Place) → 0 < missing h ts p → 0 < total (takes p) ts
unfolding missing
missing-taken h ts p m = omega arith

module _ (h : Holdings) (ts : List Item) where
  -- a place that a trade takes from is one of the two that it debits
  debits-it : (p : Place) → 0 < missing h ts p → (t : Item) → 0 < takes p t → debits_short h ts t ≡ true
  unfolding takes debits_short
  debits-it (account a) m t l = simp (takes-seller a t l, above_zero _ m)
  debits-it (type91 s) m t l = absurd (omega arith)
  debits-it (type90 s) m t l = absurd (omega arith)
  debits-it (cash_of k c) m t l = let b = takes-payer k c t l in simp (b.0, b.1, above_zero _ m, or-true)
  debits-it (member0 c) m t l = absurd (omega arith)

  pub none_short : any_short h ts ≡ false → NothingShort h ts
  unfolding any_short
  none_short none p = go (missing h ts p) refl
    where
      go : (n : ℕ) → missing h ts p ≡ n → missing h ts p ≡ 0
      go zero e = e
      go (suc n) e =
          let m : 0 < missing h ts p = omega arith in
          absurd (false≢true (sym none ∙ some-takes p (debits_short h ts) (debits-it p m) ts (missing-taken h ts p m)))

  none_debits : NothingShort h ts → (us : List Item) → some (debits_short h ts) us ≡ false
  unfolding debits_short
  none_debits q [] = refl
  none_debits q (t ∷ us) = simp (q (delivers t), q (pays t), none_debits q us)

  pub short_none : NothingShort h ts → any_short h ts ≡ false
  unfolding any_short
  short_none q = none_debits q ts

  debit-short : (t : Item) → debits_short h ts t ≡ true → SomethingShort h ts
  unfolding debits_short
  debit-short t e =
      or_cases (SomethingShort h ts) (missing h ts (delivers t) is_not 0) (missing h ts (pays t) is_not 0) e
      (λ a. (delivers t, zero_above _ a)) (λ a. (pays t, zero_above _ a))

  some-short : (us : List Item) → some (debits_short h ts) us ≡ true → SomethingShort h ts
  some-short [] e = absurd (false≢true e)
  some-short (t ∷ us) e = or_cases (SomethingShort h ts) (debits_short h ts t) (some (debits_short h ts) us) e (debit-short t) (some-short us)

  pub any_short_lem : any_short h ts ≡ true → SomethingShort h ts
  unfolding any_short
  any_short_lem e = some-short ts e

  -- what makes something short where nothing was debits a short one itself
  pub own_debits :
      (now added : List Item) → NothingShort h now → SameTotals ts (now ++ added) → any_short h ts ≡ true → some (debits_short h ts) added ≡ true
  unfolding missing
  own_debits now added q e s =
      let f = any_short_lem s in
      let p : Place = f.0 in
      some-takes p (debits_short h ts) (debits-it p f.1) added
      (omega (arith, f.1, q p, e (takes p), e (brings p), total-append (takes p) now added, total-append (brings p) now added))

-- the tests look at totals alone
pub any_short_same : (h : Holdings) (ts us : List Item) → SameTotals ts us → any_short h ts ≡ any_short h us
any_short_same h ts us e = go (any_short h ts) refl (any_short h us) refl
  where
    go : (a : Bool) → any_short h ts ≡ a → (b : Bool) → any_short h us ≡ b → any_short h ts ≡ any_short h us
    go true j true k = j ∙ sym k
    go true j false k = absurd (false≢true (sym (short_none h ts (covered_same h us ts (λ f. sym (e f)) (none_short h us k))) ∙ j))
    go false j b k = j ∙ sym (short_none h us (covered_same h ts us e (none_short h ts j)))
