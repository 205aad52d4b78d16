-- Two accounts in range with one key are one account, and a key's security is the account's. Assumes nothing.
use Prim.Native.Nat.{ℕ, ◌^◌, ◌<◌}
use native.Mathlib.Omega.{arith}
use mathlib.Core.Bool.{Bool, true, false, ◌&&◌}
use mathlib.Core.Path.{◌≡◌, refl, sym, ap, ◌∙◌}
use borrow.Author.Tests.{lt-ltb, ltb-true, eqb-true, eqb-false}
use Rattle.plain.specs.Lists.{◌is◌, ◌below◌}
use Rattle.plain.proofs.Tests.{both}
use Rattle.rulebook.specs.Ledger.{same_account}
use Rattle.rulebook.specs.declared.Account.{Account}
use Rattle.rulebook.proofs.Held.{same_self}
use Rattle.rulebook.specs.Ranges.{AccountInRange}
use Rattle.accounts.specs.Keys.{key_of, in_range, account_of}

pub range_true : (a : Account) → AccountInRange a → in_range a ≡ true
unfolding in_range
range_true a r = rw (lt-ltb _ _ r.security, lt-ltb _ _ r.member, lt-ltb _ _ r.typ, lt-ltb _ _ r.shareholder)

pub range_holds : (a : Account) → in_range a ≡ true → AccountInRange a
unfolding in_range
range_holds a e =
    let h = both (a.security below 2 ^ 14 && a.member below 2 ^ 10 && a.typ below 2 ^ 8) (a.shareholder below 2 ^ 30) e in
    let t = both (a.security below 2 ^ 14 && a.member below 2 ^ 10) (a.typ below 2 ^ 8) h.0 in
    let s = both (a.security below 2 ^ 14) (a.member below 2 ^ 10) t.0 in
    record { security = ltb-true _ _ s.0; member = ltb-true _ _ s.1; typ = ltb-true _ _ t.1; shareholder = ltb-true _ _ h.1 }

pub key_fits : (a : Account) → AccountInRange a → key_of a < 2 ^ 62
key_fits a r = omega arith

alike : (a b : Account) → a.security ≡ b.security → a.member ≡ b.member → a.typ ≡ b.typ → a.shareholder ≡ b.shareholder → a ≡ b
alike a b s m t h = λ i. record { security = s i; member = m i; typ = t i; shareholder = h i }

pub key_once : (a b : Account) → AccountInRange a → AccountInRange b → key_of a ≡ key_of b → a ≡ b
key_once a b p q e =
    let s : a.security ≡ b.security = omega arith in
    let m : a.member ≡ b.member = omega arith in
    let t : a.typ ≡ b.typ = omega arith in
    let h : a.shareholder ≡ b.shareholder = omega arith in
    alike a b s m t h

pub account_range : (key : ℕ) → key < 2 ^ 62 → AccountInRange (account_of key)
account_range key l = record { security = omega arith; member = omega arith; typ = omega arith; shareholder = omega arith }

pub key_back : (key : ℕ) → key_of (account_of key) ≡ key
key_back key = omega arith

-- one account where the test says so
same_holds : (a b : Account) → same_account a b ≡ true → a ≡ b
unfolding same_account
same_holds a b e =
    let h = both (a.security is b.security && a.member is b.member && a.typ is b.typ) (a.shareholder is b.shareholder) e in
    let t = both (a.security is b.security && a.member is b.member) (a.typ is b.typ) h.0 in
    let s = both (a.security is b.security) (a.member is b.member) t.0 in
    alike a b (eqb-true _ _ s.0) (eqb-true _ _ s.1) (eqb-true _ _ t.1) (eqb-true _ _ h.1)

-- the keys are equal where the accounts are the same
pub key_test : (a b : Account) → AccountInRange a → AccountInRange b → (key_of a is key_of b) ≡ same_account a b
key_test a b p q = go (key_of a is key_of b) (same_account a b) refl refl
  where
    go : (x y : Bool) → (key_of a is key_of b) ≡ x → same_account a b ≡ y → x ≡ y
    go true true e f = refl
    go false false e f = refl
    go true false e f = sym (same_self a) ∙ ap (same_account a) (key_once a b p q (eqb-true (key_of a) (key_of b) e)) ∙ f
    go false true e f = absurd (eqb-false (key_of a) (key_of b) e (ap key_of (same_holds a b f)))

-- an account in range is the same as none that is not
pub other_range : (a b : Account) → AccountInRange a → in_range b ≡ false → same_account a b ≡ false
other_range a b p e = go (same_account a b) refl
  where
    go : (x : Bool) → same_account a b ≡ x → x ≡ false
    go true f = sym (range_true a p) ∙ ap in_range (same_holds a b f) ∙ e
    go false f = refl
