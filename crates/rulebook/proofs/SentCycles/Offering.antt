-- What an account offers is exactly the most that can leave it with nothing short over what is fixed. Assumes nothing.
use Rattle.std.specs.Prelude.{if◌then◌else◌}
use mathlib.Core.Path.{◌≡◌, refl, ap, subst, ◌∙◌}
use mathlib.Core.Bool.{Bool, true, false}
use mathlib.Core.List.{[], ◌∷◌}
use Prim.Native.Nat.{ℕ, ◌-◌, ◌≤◌}
use native.Mathlib.Omega.{arith}
use Rattle.rulebook.specs.Ledger.{Holdings, same_account}
use Rattle.rulebook.specs.Movements.{account, type91, cash_of, move, credit, debit, credits, debits, booked}
use Rattle.rulebook.specs.Shortfall.{missing}
use Rattle.rulebook.specs.Cycle.{fixed, offers}
use Rattle.rulebook.specs.SentCycles.{OfferExact}
use Rattle.rulebook.specs.declared.Account.{Account}
use Rattle.rulebook.proofs.Booking.{recounted-beside}
use Rattle.rulebook.proofs.Held.{same_self}
use Rattle.rulebook.proofs.Places.{credit-balance, debit-balance, credit-cash, debit-cash}
use Rattle.rulebook.proofs.Accounts.{same_eq}
use Rattle.rulebook.proofs.Selection.Missing.{by_places}

-- what leaves an account changes no other balance and no cash
module _ (a : Account) (security n : ℕ) (h : Holdings) where
  abbrev left : Holdings
  left = booked (move (account a) (type91 security) n ∷ []) h

  left-balance : (x : Account) → left.balance x ≡ h.balance x - (if same_account a x then n else 0)
  unfolding booked credits debits
  left-balance x =
      let out = credit (type91 security) n h in
      let moved = debit (account a) n out in
      ap (λ (f : Account → ℕ). f x) (recounted-beside (move (account a) (type91 security) n ∷ []) moved).balance
      ∙ debit-balance x (account a) n out
      ∙ ap (λ (v : ℕ). v - (if same_account a x then n else 0)) (credit-balance x (type91 security) n h ∙ omega arith)

  left-cash : (m c : ℕ) → left.cash m c ≡ h.cash m c
  unfolding booked credits debits
  left-cash m c =
      let out = credit (type91 security) n h in
      let moved = debit (account a) n out in
      let r = ap (λ (f : ℕ → ℕ → ℕ). f m c) (recounted-beside (move (account a) (type91 security) n ∷ []) moved).cash in
      omega (arith, r, debit-cash m c (account a) n out, credit-cash m c (type91 security) n h)

pub offer_exact_lem : OfferExact
unfolding OfferExact offers missing
offer_exact_lem b security a n p l = (
  (λ o.
      by_places (left a security n b.holdings) (fixed b.waiting) (λ x. enough o x (same_account a x) refl)
      (λ m c. rw (left-cash a security n b.holdings m c) (p.covered (cash_of m c)))),
  (λ short. omega (arith, l, short (account a), own)),
)
  where
    own : (left a security n b.holdings).balance a ≡ b.holdings.balance a - n
    own = left-balance a security n b.holdings a ∙ rw (same_self a)

    -- the account itself keeps what the fixed trades take from it, and every other keeps what it has
    enough :
        n ≤ offers b.holdings b.waiting a → (x : Account) (t : Bool) → same_account a x ≡ t
        → missing (left a security n b.holdings) (fixed b.waiting) (account x) ≡ 0
    enough o x true e =
        subst (λ (y : Account). missing (left a security n b.holdings) (fixed b.waiting) (account y) ≡ 0) (same_eq a x e)
        (omega (arith, l, o, own, p.covered (account a)))
    enough o x false e =
        let same : (left a security n b.holdings).balance x ≡ b.holdings.balance x = left-balance a security n b.holdings x ∙ simp e (omega arith) in
        omega (arith, same, p.covered (account x))
