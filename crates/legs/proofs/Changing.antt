-- The figures after one leg is added or taken away: a store changes those of all legs that debit the same. Whether it can be added. Assumes nothing.
use Rattle.std.specs.Prelude.{if◌then◌else◌}
use Prim.Native.Nat.{ℕ, ◌+◌, ◌≤◌, ◌<◌}
use native.Mathlib.Omega.{arith}
use mathlib.Core.Bool.{Bool, true, false, not}
use mathlib.Core.List.{List}
use mathlib.Core.Path.{◌≡◌, refl, sym, ap, ◌∙◌}
use borrow.Author.Tests.{eq-eqb, eqb-true, lt-ltb, le-ltb, ltb-false}
use lib.ListN.{length, set, length-set}
use lib.Seq.{get_or-set_same}
use Rattle.plain.specs.Lists.{◌is◌, ◌below◌}
use Rattle.legs.specs.Figures.{OWES, from_at, to_at, number_at, has_at, owes_at, brings, takes, Figures, short_at, short_with}
use Rattle.legs.specs.Slots.{Slots, viewed}
use Rattle.legs.proofs.Slotted as slotted
use Rattle.legs.proofs.Slotted.{owes_there, has_there, changed-none, changed-both, has-less, short_there, slot_last, figures_as}

-- leg j of n, the slots, and the figures before
pub record Spot (n : ℕ) (legs slots figures : List ℕ) (j : ℕ) : Type 0 where
  pub size : n ≤ 64
  pub long : length figures ≡ 128
  pub slots_as : Slots n legs slots
  pub low : j < n

module _ {n : ℕ} {legs slots figures : List ℕ} {j : ℕ} (p : Spot n legs slots figures j) where
  abbrev from : ℕ
  from = has_at slots j

  abbrev to : ℕ
  to = owes_at slots j

  pub from_low : from < 64
  from_low = slotted.from_low n legs slots figures p.size p.long p.slots_as j p.low

  pub to_most : to ≤ 64
  to_most = slotted.to_most n legs slots figures p.size p.long p.slots_as j p.low

  -- the leg that has the figures of what j credits
  pub to_leg : to < 64 → (to < n) × ((to_at legs j is from_at legs to) ≡ true)
  to_leg l = slotted.to_leg n legs slots figures p.size p.long p.slots_as j p.low l

  -- none debits what j credits where that has no slot, and none behind its slot
  pub none_credited : to ≡ 64 → (k : ℕ) → k < n → (to_at legs j is from_at legs k) ≡ false
  none_credited e k h = slotted.brings-none n legs slots figures p.size p.long p.slots_as (to_at legs j) (sym (p.slots_as.owes_as j p.low) ∙ e) k h

  pub none_behind : (k : ℕ) → to + 1 ≤ k → k < n → (to_at legs j is from_at legs k) ≡ true → ⊥
  none_behind k a h t =
      let q = slot_last legs n (to_at legs j) k h (sym (eqb-true _ _ t)) in
      omega (arith, q, a, p.slots_as.owes_as j p.low)

  -- what holds of the figures of each leg, and what j moves there, holds of what is stored
  module _ (Fits : (has moved : ℕ) → Type 0) where
    pub owes_fits : ((k : ℕ) → k < n → Fits (owes_at (viewed slots figures) k) (takes legs j k)) → Fits (owes_at figures from) (number_at legs j)
    owes_fits f =
        let e = eq-eqb (from_at legs j) (from_at legs j) refl in
        let own = owes_there n legs slots figures p.size p.long p.slots_as j p.low j p.low e in
        let h = rw (own, e) at (f j p.low) in
        h

    pub has-fits :
        ((k : ℕ) → k < n → Fits (has_at (viewed slots figures) k) (brings legs j k)) → to < 64 → (o : ℕ)
        → Fits (has_at (set figures (from + OWES) o) to) (number_at legs j)
    has-fits f l o =
        let t = to_leg l in
        let there = has_there n legs slots figures p.size p.long p.slots_as j p.low to t.0 t.1 in
        let h = rw (there, t.1) at (f to t.0) in
        rw (has-less n legs slots figures p.size p.long p.slots_as j p.low l o) h

  -- ---- leg j held against what it debits

  inside : j < 64
  inside = omega (arith, p.low, p.size)

  -- the figures before and with it, read at the slot
  short_before : short_at (viewed slots figures) j ≡ (has_at figures from below owes_at figures from)
  short_before = rw (slotted.has-viewed slots figures j inside, slotted.owes_viewed slots figures j inside)

  short_with_lem : short_with legs (viewed slots figures) j ≡ ((has_at figures from + brings legs j j) below (owes_at figures from + number_at legs j))
  short_with_lem = rw (slotted.has-viewed slots figures j inside, slotted.owes_viewed slots figures j inside, eq-eqb (from_at legs j) (from_at legs j) refl)

  -- there is enough
  pub covered : owes_at figures from + number_at legs j ≤ has_at figures from → true ≡ not (short_with legs (viewed slots figures) j)
  covered e = rw (short_with_lem, le-ltb (has_at figures from + brings legs j j) (owes_at figures from + number_at legs j) (omega (arith, e)))

  -- there is not: then leg j must bring back what it takes
  pub brings-back :
      has_at figures from < owes_at figures from + number_at legs j → short_at (viewed slots figures) j ≡ false
      → (to_at legs j is from_at legs j) ≡ not (short_with legs (viewed slots figures) j)
  brings-back l e = rw short_with_lem (go (to_at legs j is from_at legs j))
    where
      has : ℕ
      has = has_at figures from

      owes : ℕ
      owes = owes_at figures from

      number : ℕ
      number = number_at legs j

      before : owes ≤ has
      before = ltb-false has owes (sym short_before ∙ e)

      go : (t : Bool) → t ≡ not ((has + (if t then number else 0)) below (owes + number))
      go true = rw (le-ltb (has + number) (owes + number) (omega (arith, before)))
      go false = rw (lt-ltb (has + 0) (owes + number) (omega (arith, l)))

  -- ---- a change, by adding or by taking away

  module _ (change : ℕ → ℕ → ℕ) (by_none : (x : ℕ) → change x 0 ≡ x) where
    -- with what is taken changed, and with what is brought changed too
    abbrev pub one : List ℕ
    one = set figures (from + OWES) (change (owes_at figures from) (number_at legs j))

    abbrev pub both : List ℕ
    both = set one to (change (has_at one to) (number_at legs j))

    pub one_long : length one ≡ 128
    one_long = length-set figures (from + OWES) (change (owes_at figures from) (number_at legs j)) ∙ p.long

    pub both_long : length both ≡ 128
    both_long = length-set one to (change (has_at one to) (number_at legs j)) ∙ one_long

    abbrev pub Changed : List ℕ → Type 0
    Changed now =
        let was = viewed slots figures in
        Figures n (λ k. change (has_at was k) (brings legs j k)) (λ k. change (owes_at was k) (takes legs j k)) (viewed slots now)

    -- a figure that changes where a test says so
    changes : (t : Bool) (v x m : ℕ) → (t ≡ true → v ≡ change x m) → (if t then v else x) ≡ change x (if t then m else 0)
    changes true v x m e = e refl
    changes false v x m e = sym (by_none x)

    owes_are :
        (k : ℕ) → k < n → (let was = owes_at (viewed slots figures) k in
        (if from_at legs j is from_at legs k then change (owes_at figures from) (number_at legs j) else was) ≡ change was (takes legs j k))
    owes_are k h =
        changes (from_at legs j is from_at legs k) _ (owes_at (viewed slots figures) k) (number_at legs j)
        (λ e. ap (λ (x : ℕ). change x (number_at legs j)) (sym (owes_there n legs slots figures p.size p.long p.slots_as j p.low k h e)))

    pub changed-one : to ≡ 64 → Changed one
    changed-one e =
        figures_as n _ _ _ _ _
        (changed-none n legs slots figures p.size p.long p.slots_as j p.low e (change (owes_at figures from) (number_at legs j)))
        (λ k h. rw (none_credited e k h) (sym (by_none (has_at (viewed slots figures) k)))) owes_are

    pub changed-two : to < 64 → Changed both
    changed-two l =
        let o : ℕ = change (owes_at figures from) (number_at legs j) in
        let v : ℕ = change (has_at one to) (number_at legs j) in
        let was = has-less n legs slots figures p.size p.long p.slots_as j p.low l o in
        let there = has_there n legs slots figures p.size p.long p.slots_as j p.low in
        figures_as n _ _ _ _ _ (changed-both n legs slots figures p.size p.long p.slots_as j p.low l o v)
        (λ k h. changes (to_at legs j is from_at legs k) v (has_at (viewed slots figures) k) (number_at legs j)
        (λ e. ap (λ (x : ℕ). change x (number_at legs j)) (was ∙ sym (there k h e))))
        owes_are

    -- what j credits is not short: then no leg that debits it is
    pub credited_fine :
        to < 64 → (change (has_at one to) (number_at legs j) below owes_at both to) ≡ false → (k : ℕ) → k < n → (to_at legs j is from_at legs k) ≡ true
        → short_at (viewed slots both) k ≡ false
    credited_fine l e k h t =
        short_there n legs slots both p.size both_long p.slots_as j p.low k h t
        ∙ ap (λ (x : ℕ). x below owes_at both to) (get_or-set_same one to (change (has_at one to) (number_at legs j)) 0 (omega (arith, one_long))) ∙ e
