-- An account that is not empty has shares that are free or held back; what is empty or not open is not listed. Assumes nothing.
use Prim.Native.Nat.{ℕ, ◌≤◌}
use native.Mathlib.Omega.{arith}
use mathlib.Core.Bool.{Bool, true, false, not, ◌&&◌, false≢true}
use mathlib.Core.List.{[], ◌∷◌}
use mathlib.Core.Path.{◌≡◌, refl, sym, ap, ◌∙◌}
use borrow.Author.Tests.{eqb-true, eqb-false}
use Rattle.plain.specs.Lists.{◌is◌, ◌is_not◌, ◌one_of◌}
use Rattle.rulebook.specs.AccountTypes.{state_of, is_free, account_type}
use Rattle.rulebook.specs.Ledger.{Holdings, Ledger, Requests, counted}
use Rattle.rulebook.specs.Premise.{Premise}
use Rattle.rulebook.specs.TypeTable.{pledged, blocked, in_transit}
use Rattle.rulebook.specs.declared.Account.{Account}
use Rattle.rulebook.proofs.Sizes.{counted-some}
use Rattle.book.specs.Keys.{account_of, has_balance, is_open}
use Rattle.listing.specs.Listed.{held_back, is_listed}
use Rattle.listing.specs.ByNumber.{account_listed, request_listed}

free-or_held : (typ : ℕ) → account_type typ ≡ true → held_back typ ≡ not (is_free typ)
unfolding account_type held_back is_free
free-or_held typ e = go (state_of typ is 1) refl
  where
    go : (b : Bool) → (state_of typ is 1) ≡ b → (state_of typ one_of (pledged ∷ blocked ∷ in_transit ∷ [])) ≡ not b
    go true f = let s : state_of typ ≡ 1 = eqb-true (state_of typ) 1 f in rw s
    go false f = rw f at e

pub not_none : (n : ℕ) → (n is_not 0) ≡ true → 1 ≤ n
not_none n e = go (n is 0) refl
  where
    go : (b : Bool) → (n is 0) ≡ b → 1 ≤ n
    go true f = absurd (false≢true (sym (ap not f) ∙ e))
    go false f = omega (arith, eqb-false n 0 f)

and-true : (x : Bool) → (x && true) ≡ x
and-true true = refl
and-true false = refl

and-false : (x : Bool) → (x && false) ≡ false
and-false true = refl
and-false false = refl

-- one that is listed is not empty
pub has-balance : (h : Holdings) (a : Account) → is_listed h a ≡ true → (h.balance a is_not 0) ≡ true
unfolding is_listed
has-balance h a so = go (held_back a.typ) so
  where
    go : (held : Bool) → (held && h.balance a is_not 0) ≡ true → (h.balance a is_not 0) ≡ true
    go true e = e
    go false e = absurd (false≢true e)

-- it is listed where it is not free
pub listed-or_free : (b : Ledger) → Premise b → (a : Account) → (b.holdings.balance a is_not 0) ≡ true → is_listed b.holdings a ≡ not (is_free a.typ)
unfolding is_listed
listed-or_free b p a e = rw (e, free-or_held a.typ (p.accounts a (not_none (b.holdings.balance a) e)).typ) (and-true (not (is_free a.typ)))

-- one that is empty is not listed, and one that is not is counted once
pub empty_not_listed : (h : Holdings) (k : ℕ) → has_balance h.balance k ≡ false → account_listed h k ≡ []
unfolding is_listed
empty_not_listed h k e = rw (e, and-false (held_back (account_of k).typ))

pub counted-once : (n : ℕ) → (n is_not 0) ≡ true → counted n ≡ 1
counted-once n e = counted-some n (not_none n e)

pub not_open : (r : Requests) (k : ℕ) → is_open r.asked k ≡ false → request_listed r k ≡ []
not_open r k e = rw e
