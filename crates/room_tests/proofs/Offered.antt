-- Sums over the fixed items, place by place; what an account offers by those sums. Assumes nothing.
use Rattle.std.specs.Prelude.{if◌then◌else◌}
use Prim.Native.Nat.{ℕ, suc, ◌+◌, ◌-◌, ◌*◌, ◌≤◌, ◌<◌, ◌^◌}
use mathlib.Core.Path.{◌≡◌, refl}
use mathlib.Core.Bool.{Bool, true, false}
use mathlib.Core.List.{List, [], ◌∷◌}
use native.Mathlib.Numerals.{add-one}
use native.Mathlib.Omega.{arith}
use lib.ListN.{length, get_or, drop, drop_of_length-le}
use lib.Seq.{drop-cons}
use Rattle.plain.specs.Lists.{total, Each}
use Rattle.plain.proofs.Lists.{each_so}
use Rattle.rulebook.specs.Ledger.{Ledger, same_account}
use Rattle.rulebook.specs.Movements.{account}
use Rattle.rulebook.specs.Shortfall.{seller, buyer, takes, brings, missing}
use Rattle.rulebook.specs.Cycle.{fixed, offers}
use Rattle.rulebook.specs.Premise.{Premise}
use Rattle.rulebook.specs.declared.Account.{Account}
use Rattle.rulebook.specs.declared.Item.{Item}
use Rattle.rulebook.proofs.EveryCall.Fixed.{none_in_fixed, all-unsent}
use Rattle.room_tests.specs.Offered.{takes_from, brings_to, if_fixed}

-- a list with a place inside has an element
an_item : {A : Type 0} (l : List A) (i : ℕ) → i < length l → A
an_item [] i h = absurd (omega arith)
an_item (x ∷ rest) i h = x

-- one item more
fixed_more : (figure : Item → ℕ) (x : Item) (rest : List Item) → total figure (fixed (x ∷ rest)) ≡ if_fixed figure x + total figure (fixed rest)
unfolding fixed
fixed_more figure x rest = go x.sent refl
  where
    go : (t : Bool) → x.sent ≡ t → total figure (fixed (x ∷ rest)) ≡ if_fixed figure x + total figure (fixed rest)
    go true e = rw e
    go false e = rw e (omega arith)

-- ---- the loop: the sum so far with what is left is the whole

module _ (figure : Item → ℕ) (l : List Item) where
  abbrev pub whole : ℕ
  whole = total figure (fixed l)

  abbrev pub Summed : (i sum : ℕ) → Type 0
  Summed i sum = sum + total figure (fixed (drop i l)) ≡ whole

  pub summed_none : Summed 0 0
  summed_none = omega arith

  pub summed_more : (i sum next : ℕ) → i < length l → ((d : Item) → next ≡ if_fixed figure (get_or l i d)) → Summed i sum → Summed (i + 1) (sum + next)
  summed_more i sum next h e s =
      let d = an_item l i h in
      let split : total figure (fixed (drop i l)) ≡ if_fixed figure (get_or l i d) + total figure (fixed (drop (i + 1) l)) =
      rw (add-one, drop-cons l i d h) (fixed_more figure (get_or l i d) (drop (suc i) l))
      in
      omega (arith, s, split, e d)

  pub summed_done : (i sum : ℕ) → length l ≤ i → Summed i sum → sum ≡ whole
  unfolding fixed
  summed_done i sum h s =
      let none : total figure (fixed (drop i l)) ≡ 0 = rw (drop_of_length-le l h) refl in
      omega (arith, s, none)

-- ---- how large it can be

small : (figure : Item → ℕ) (l : List Item) → Each (λ item. figure item ≤ 2 ^ 40) l → total figure (fixed l) ≤ length l * 2 ^ 40
small figure [] e = unfold fixed in omega arith
small figure (x ∷ rest) e = rw (fixed_more figure x rest) (go x.sent (small figure rest e.1))
  where
    go : (t : Bool) → total figure (fixed rest) ≤ length rest * 2 ^ 40 → (if t then figure x else 0) + total figure (fixed rest) ≤ length (x ∷ rest) * 2 ^ 40
    go true ih = omega (arith, ih, e.0)
    go false ih = omega (arith, ih)

where_same : (t : Bool) (n : ℕ) → n < 2 ^ 40 → (if t then n else 0) ≤ 2 ^ 40
where_same true n h = omega arith
where_same false n h = omega arith

module _ (b : Ledger) (p : Premise b) (a : Account) where
  pub taken_small : total (takes_from a) (fixed b.waiting) ≤ 64 * 2 ^ 40
  unfolding takes
  taken_small =
      omega (
        arith,
        p.sizes.items,
        small (takes_from a) b.waiting
            (each_so _ _ (λ item f. where_same (same_account (seller item) a) _ f.terms.quantity_most) b.waiting p.items),
      )

  pub brought_small : total (brings_to a) (fixed b.waiting) ≤ 64 * 2 ^ 40
  unfolding brings
  brought_small =
      omega (
        arith,
        p.sizes.items,
        small (brings_to a) b.waiting
            (each_so _ _ (λ item f. where_same (same_account (buyer item) a) _ f.terms.quantity_most) b.waiting p.items),
      )

-- ---- what is offered

module _ (b : Ledger) (p : Premise b) (a : Account) where
  -- while no cycle is sent
  pub offers-unsent : b.day.sent ≡ false → b.holdings.balance a ≡ offers b.holdings b.waiting a
  unfolding offers
  offers-unsent n = rw (none_in_fixed b.waiting (all-unsent b p n)) (omega arith)

  module _ (taken brought : ℕ) (t : taken ≡ total (takes_from a) (fixed b.waiting)) (r : brought ≡ total (brings_to a) (fixed b.waiting)) where
    pub offers-rest : b.holdings.balance a - (taken - brought) ≡ offers b.holdings b.waiting a
    unfolding offers
    offers-rest = rw (t, r) refl

    -- they take no more than is there and is brought
    pub offers-covered : taken - brought ≤ b.holdings.balance a
    unfolding missing
    offers-covered = omega (arith, t, r, p.covered (account a))
