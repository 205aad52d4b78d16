-- The marked trades' movements, booked one trade after the other. Assumes nothing.
use Rattle.std.specs.Prelude.{if◌then◌else◌}
use Prim.Native.Nat.{ℕ, zero, suc, ◌+◌, ◌-◌}
use native.Mathlib.Numerals.{add-one}
use native.Mathlib.Omega.{arith}
use mathlib.Core.Bool.{Bool, true, false, not}
use mathlib.Core.List.{List, [], ◌∷◌, ◌++◌, map}
use mathlib.Core.Path.{◌≡◌, refl, ap, ◌∙◌}
use borrow.Author.Tests.{eq-eqb}
use Rattle.plain.specs.Lists.{keep, sum_below}
use Rattle.rulebook.specs.Ledger.{Holdings}
use Rattle.rulebook.specs.Movements.{account, cash_of, Movement, credit, debit, credits, debits}
use Rattle.rulebook.specs.Shortfall.{seller, buyer, brings, takes}
use Rattle.rulebook.specs.Cycle.{legs}
use Rattle.marks.specs.Marks.{Marked, with_mark, without_mark}
use Rattle.rulebook.specs.declared.Account.{Account}
use Rattle.rulebook.specs.declared.Item.{Item}
use Rattle.rulebook.proofs.Held.{same_self}
use Rattle.rulebook.proofs.Places.{credit-balance, debit-balance, credit-cash, debit-cash}
use Rattle.words.specs.Places.{list_from}
use Rattle.words.proofs.Places.{from_push}
use Rattle.marks.proofs.Marking.{marking}

-- ---- lists of movements, one behind the other

credits-append : (xs ys : List Movement) (h : Holdings) → credits (xs ++ ys) h ≡ credits ys (credits xs h)
unfolding credits
credits-append [] ys h = refl
credits-append (x ∷ xs) ys h = credits-append xs ys (credit x.to x.number h)

debits-append : (xs ys : List Movement) (h : Holdings) → debits (xs ++ ys) h ≡ debits ys (debits xs h)
unfolding debits
debits-append [] ys h = refl
debits-append (x ∷ xs) ys h = debits-append xs ys (debit x.from x.number h)

pub legs-append : (xs ys : List Item) → legs (xs ++ ys) ≡ legs xs ++ legs ys
unfolding legs
legs-append [] ys = refl
legs-append (x ∷ xs) ys = rw (legs-append xs ys)

-- an item where its mark says so
abbrev pub if_marked : Bool → Item → List Item
if_marked b t = if b then t ∷ [] else []

-- the items whose mark passes a test, in a list with one more
abbrev passing : (Bool → Bool) → List Marked → List Item
passing test ms = map (λ m. m.1) (keep (λ m. test m.0) ms)

pub passing_last : (test : Bool → Bool) (xs : List Marked) (b : Bool) (t : Item) → passing test (xs ++ ((b, t) ∷ [])) ≡ passing test xs ++ if_marked (test b) t
passing_last test [] b t = go (test b)
  where
    go : (c : Bool) → map (λ (m : Marked). m.1) (if c then (b, t) ∷ [] else []) ≡ if_marked c t
    go true = refl
    go false = refl
passing_last test (x ∷ xs) b t = go (test x.0) refl (passing_last test xs b t)
  where
    go :
        (c : Bool) → test x.0 ≡ c → passing test (xs ++ ((b, t) ∷ [])) ≡ passing test xs ++ if_marked (test b) t
        → passing test ((x ∷ xs) ++ ((b, t) ∷ [])) ≡ passing test (x ∷ xs) ++ if_marked (test b) t
    go true e ih = rw e (ap (λ (l : List Item). x.1 ∷ l) ih)
    go false e ih = rw e ih

module _ (item : ℕ → Item) (on : ℕ → Bool) where
  -- the marked ones of the first i items
  abbrev pub first : ℕ → List Item
  first i = with_mark (marking on item i)

  -- one more of the items whose mark passes a test
  passing_next : (test : Bool → Bool) (i : ℕ) → passing test (marking on item (i + 1)) ≡ passing test (marking on item i) ++ if_marked (test (on i)) (item i)
  passing_next test i =
      let z : 0 + i ≡ i = omega arith in
      ap (λ (k : ℕ). passing test (marking on item k)) (add-one i)
      ∙ ap (passing test)
      (from_push (λ k. (on k, item k)) (λ k. (on k, item k)) 0 i (λ k l. refl) ∙ ap (λ (k : ℕ). marking on item i ++ ((on k, item k) ∷ [])) z)
      ∙ passing_last test (marking on item i) (on i) (item i)

  pub first_next : (i : ℕ) → first (i + 1) ≡ first i ++ if_marked (on i) (item i)
  unfolding with_mark
  first_next i = passing_next (λ x. x) i

  pub without_next : (i : ℕ) → without_mark (marking on item (i + 1)) ≡ without_mark (marking on item i) ++ if_marked (not (on i)) (item i)
  unfolding without_mark
  without_next i = passing_next not i

  pub credits-next : (i : ℕ) (h : Holdings) → credits (legs (first (i + 1))) h ≡ credits (legs (if_marked (on i) (item i))) (credits (legs (first i)) h)
  credits-next i h =
      ap (λ (l : List Item). credits (legs l) h) (first_next i)
      ∙ ap (λ (l : List Movement). credits l h) (legs-append (first i) (if_marked (on i) (item i)))
      ∙ credits-append (legs (first i)) (legs (if_marked (on i) (item i))) h

  pub debits-next : (i : ℕ) (h : Holdings) → debits (legs (first (i + 1))) h ≡ debits (legs (if_marked (on i) (item i))) (debits (legs (first i)) h)
  debits-next i h =
      ap (λ (l : List Item). debits (legs l) h) (first_next i)
      ∙ ap (λ (l : List Movement). debits l h) (legs-append (first i) (if_marked (on i) (item i)))
      ∙ debits-append (legs (first i)) (legs (if_marked (on i) (item i))) h

-- ---- what a trade does to one account and to one member's cash

module _ (t : Item) (h : Holdings) where
  credit-one_balance : (b : Bool) (a : Account) → (credits (legs (if_marked b t)) h).balance a ≡ h.balance a + (if b then brings (account a) t else 0)
  unfolding credits legs brings
  credit-one_balance true a =
      let first = credit-balance a (account (buyer t)) t.quantity.0 h in
      omega (arith, credit-balance a (cash_of t.debited.member t.currency) t.amount.0 (credit (account (buyer t)) t.quantity.0 h), first)
  credit-one_balance false a = omega arith

  credit-one_cash : (b : Bool) (m c : ℕ) → (credits (legs (if_marked b t)) h).cash m c ≡ h.cash m c + (if b then brings (cash_of m c) t else 0)
  unfolding credits legs brings
  credit-one_cash true m c =
      let first = credit-cash m c (account (buyer t)) t.quantity.0 h in
      omega (arith, credit-cash m c (cash_of t.debited.member t.currency) t.amount.0 (credit (account (buyer t)) t.quantity.0 h), first)
  credit-one_cash false m c = omega arith

  debit-one_balance : (b : Bool) (a : Account) → (debits (legs (if_marked b t)) h).balance a ≡ h.balance a - (if b then takes (account a) t else 0)
  unfolding debits legs takes
  debit-one_balance true a =
      let first = debit-balance a (account (seller t)) t.quantity.0 h in
      omega (arith, debit-balance a (cash_of t.credited.member t.currency) t.amount.0 (debit (account (seller t)) t.quantity.0 h), first)
  debit-one_balance false a = omega arith

  debit-one_cash : (b : Bool) (m c : ℕ) → (debits (legs (if_marked b t)) h).cash m c ≡ h.cash m c - (if b then takes (cash_of m c) t else 0)
  unfolding debits legs takes
  debit-one_cash true m c =
      let first = debit-cash m c (account (seller t)) t.quantity.0 h in
      omega (arith, debit-cash m c (cash_of t.credited.member t.currency) t.amount.0 (debit (account (seller t)) t.quantity.0 h), first)
  debit-one_cash false m c = omega arith

-- a trade's own account and cash get what it brings, and lose what it takes

pub own_taken : (t : Item) → takes (account (seller t)) t ≡ t.quantity.0
unfolding takes
own_taken t = rw (same_self (seller t))

pub own_pays : (t : Item) → takes (cash_of t.credited.member t.currency) t ≡ t.amount.0
unfolding takes
own_pays t = rw (eq-eqb t.credited.member t.credited.member refl, eq-eqb t.currency t.currency refl)

-- ---- and what the marked ones of the first i do

module _ (item : ℕ → Item) (on : ℕ → Bool) where
  -- the sum of a figure over them
  abbrev upto : (Item → ℕ) → ℕ → ℕ
  upto f i = sum_below i (λ k. if on k then f (item k) else 0)

  pub credits-none : (h : Holdings) → credits (legs (first item on 0)) h ≡ h
  unfolding credits legs with_mark list_from
  credits-none h = refl

  pub debits-none : (h : Holdings) → debits (legs (first item on 0)) h ≡ h
  unfolding debits legs with_mark list_from
  debits-none h = refl

  -- any balance or amount of cash that a trade changes by a figure, they change by its sum
  module _ (kept : Holdings → ℕ) (f : Item → ℕ) (h : Holdings) where
    credited :
        ((t : Item) (h : Holdings) (b : Bool) → kept (credits (legs (if_marked b t)) h) ≡ kept h + (if b then f t else 0)) → (i : ℕ)
        → kept (credits (legs (first item on i)) h) ≡ kept h + upto f i
    unfolding sum_below
    credited one zero = ap kept (credits-none h) ∙ omega arith
    credited one (suc i) =
        omega (arith, ap kept (rw add-one at (credits-next item on i h)), one (item i) (credits (legs (first item on i)) h) (on i), credited one i)

    debited :
        ((t : Item) (h : Holdings) (b : Bool) → kept (debits (legs (if_marked b t)) h) ≡ kept h - (if b then f t else 0)) → (i : ℕ)
        → kept (debits (legs (first item on i)) h) ≡ kept h - upto f i
    unfolding sum_below
    debited one zero = ap kept (debits-none h) ∙ omega arith
    debited one (suc i) =
        omega (arith, ap kept (rw add-one at (debits-next item on i h)), one (item i) (debits (legs (first item on i)) h) (on i), debited one i)

  pub credited_balance : (a : Account) (h : Holdings) (i : ℕ) → (credits (legs (first item on i)) h).balance a ≡ h.balance a + upto (brings (account a)) i
  credited_balance a h i = credited (λ x. x.balance a) (brings (account a)) h (λ t x b. credit-one_balance t x b a) i

  pub credited_cash : (m c : ℕ) (h : Holdings) (i : ℕ) → (credits (legs (first item on i)) h).cash m c ≡ h.cash m c + upto (brings (cash_of m c)) i
  credited_cash m c h i = credited (λ x. x.cash m c) (brings (cash_of m c)) h (λ t x b. credit-one_cash t x b m c) i

  pub debited_balance : (a : Account) (h : Holdings) (i : ℕ) → (debits (legs (first item on i)) h).balance a ≡ h.balance a - upto (takes (account a)) i
  debited_balance a h i = debited (λ x. x.balance a) (takes (account a)) h (λ t x b. debit-one_balance t x b a) i

  pub debited_cash : (m c : ℕ) (h : Holdings) (i : ℕ) → (debits (legs (first item on i)) h).cash m c ≡ h.cash m c - upto (takes (cash_of m c)) i
  debited_cash m c h i = debited (λ x. x.cash m c) (takes (cash_of m c)) h (λ t x b. debit-one_cash t x b m c) i
