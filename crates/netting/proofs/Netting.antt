-- The figures of shares, or of cash, under marks: all marked legs added, one added, one taken away; what is short by them. Assumes nothing.
use Rattle.std.specs.Prelude.{if◌then◌else◌}
use Prim.Native.Nat.{ℕ, ◌+◌, ◌-◌, ◌*◌, ◌^◌, ◌≤◌, ◌<◌}
use native.Mathlib.Omega.{arith}
use mathlib.Core.Bool.{Bool, true, false, not}
use mathlib.Core.List.{List, [], ◌∷◌, ◌++◌}
use mathlib.Core.Logic.{◌≢◌}
use mathlib.Core.Path.{◌≡◌, refl, sym, ap, ◌∙◌}
use borrow.Author.Tests.{eq-eqb, ne_eqb, ltb-true, ltb-false}
use lib.ListN.{length}
use Rattle.plain.specs.Lists.{◌is_not◌, ◌below◌, total}
use Rattle.plain.proofs.Lists.{total-append}
use Rattle.plain.proofs.Sums.{sum_same, sum-least}
use Rattle.rulebook.specs.Ledger.{Ledger}
use Rattle.rulebook.specs.Movements.{Place, book_has}
use Rattle.rulebook.specs.Shortfall.{missing}
use Rattle.rulebook.specs.Shortfall as trades
use Rattle.rulebook.specs.declared.Item.{Item}
use Rattle.marks.specs.Marks.{over, with_mark, item_in, is_on, marked_of}
use Rattle.marks.proofs.Marking.{sum-most, if-below, marking, over-sum, over-more, over-marked}
use Rattle.legs.specs.Figures.{has_at, owes_at, brings, takes, brings_all, takes_all, Figures, Room, Cover, RoomAll, short_at, short_with}
use Rattle.netting.specs.Figured.{FiguresOf}

-- a test of figures is that of what is missing
missing-test : (has owes : ℕ) → (has below owes) ≡ ((owes - has) is_not 0)
missing-test has owes = go (has below owes) refl
  where
    go : (b : Bool) → (has below owes) ≡ b → b ≡ ((owes - has) is_not 0)
    go true e = sym (ap not (ne_eqb (owes - has) 0 (λ z. omega (arith, z, ltb-true has owes e))))
    go false e = sym (ap not (eq-eqb (owes - has) 0 (omega (arith, ltb-false has owes e))))

-- the legs of a book's trades, which debit the places that `debits` says
module _ (b : Ledger) (debits : Item → Place) (legs : List ℕ) where
  abbrev item : ℕ → Item
  item k = item_in b.waiting k

  abbrev n : ℕ
  n = length b.waiting

  -- what a trade brings to what leg k debits, what it takes from it, and what is there
  abbrev into : ℕ → Item → ℕ
  into k t = trades.brings (debits (item k)) t

  abbrev out : ℕ → Item → ℕ
  out k t = trades.takes (debits (item k)) t

  abbrev have : ℕ → ℕ
  have k = book_has (debits (item k)) b.holdings

  -- the legs are such, and their numbers and what is there fit
  pub record Column : Type 0 where
    pub size : n ≤ 64
    pub brings_as : (j k : ℕ) → j < n → k < n → brings legs j k ≡ into k (item j)
    pub takes_as : (j k : ℕ) → j < n → k < n → takes legs j k ≡ out k (item j)
    pub into_small : (j k : ℕ) → j < n → k < n → into k (item j) < 2 ^ 40
    pub out_small : (j k : ℕ) → j < n → k < n → out k (item j) < 2 ^ 40
    pub rich : (k : ℕ) → k < n → have k < 2 ^ 63

  module _ (a : Column) (marks : ℕ) where
    abbrev on : ℕ → Bool
    on = is_on marks

    -- what all marked legs bring and take
    brought : (k : ℕ) → k < n → brings_all n on legs k ≡ over (into k) (marking on item n)
    brought k h =
        sum_same n (λ j. if on j then into k (item j) else 0) (λ j. if on j then brings legs j k else 0)
        (λ j l. ap (λ (x : ℕ). if on j then x else 0) (a.brings_as j k l h))
        ∙ sym (over-sum item n (into k) on)

    taken : (k : ℕ) → k < n → takes_all n on legs k ≡ over (out k) (marking on item n)
    taken k h =
        sum_same n (λ j. if on j then out k (item j) else 0) (λ j. if on j then takes legs j k else 0)
        (λ j l. ap (λ (x : ℕ). if on j then x else 0) (a.takes_as j k l h))
        ∙ sym (over-sum item n (out k) on)

    into_most : (k : ℕ) → k < n → over (into k) (marking on item n) ≤ 64 * 1_099_511_627_776
    into_most k h =
        let most = sum-most n (λ j. if on j then into k (item j) else 0) (λ j l. if-below (on j) _ (a.into_small j k l h)) in
        omega (arith, over-sum item n (into k) on, most, a.size)

    out_most : (k : ℕ) → k < n → over (out k) (marking on item n) ≤ 64 * 1_099_511_627_776
    out_most k h =
        let most = sum-most n (λ j. if on j then out k (item j) else 0) (λ j l. if-below (on j) _ (a.out_small j k l h)) in
        omega (arith, over-sum item n (out k) on, most, a.size)

    -- ---- from the figures before any leg is added

    module _ (before : List ℕ) (f : Figures n have (λ k. 0) before) where
      -- the marked legs can be added
      pub room_all : RoomAll n on legs before
      room_all = record {
        has = λ k h. omega (arith, f.has_as k h, a.rich k h, brought k h, into_most k h);
        owes = λ k h. omega (arith, f.owes_as k h, taken k h, out_most k h);
      }

      -- and then the figures are those under the marks
      pub start_figures :
          (after : List ℕ) → Figures n (λ k. has_at before k + brings_all n on legs k) (λ k. owes_at before k + takes_all n on legs k) after
          → FiguresOf b marks debits after
      unfolding marked_of
      start_figures after g = record {
        long = g.long;
        has_as = λ k h. omega (arith, g.has_as k h, f.has_as k h, brought k h);
        owes_as = λ k h. omega (arith, g.owes_as k h, f.owes_as k h, taken k h);
      }

    -- ---- from the figures under the marks

    module _ (figures : List ℕ) (f : FiguresOf b marks debits figures) where
      abbrev trades_in_lem : List Item
      trades_in_lem = with_mark (marked_of marks b.waiting)

      -- what leg k debits is short where something is missing there
      pub short_missing : (k : ℕ) → k < n → short_at figures k ≡ (missing b.holdings trades_in_lem (debits (item k)) is_not 0)
      unfolding missing
      short_missing k l =
          rw (f.has_as k l, f.owes_as k l, over-marked (into k) (marked_of marks b.waiting), over-marked (out k) (marked_of marks b.waiting))
          (missing-test (have k + total (into k) trades_in_lem) (total (out k) trades_in_lem))

      module _ (j : ℕ) (l : j < n) where
        -- and so it is with leg j added
        pub with_missing : short_with legs figures j ≡ (missing b.holdings (trades_in_lem ++ item j ∷ []) (debits (item j)) is_not 0)
        unfolding missing
        with_missing =
            let has : has_at figures j + brings legs j j ≡ have j + total (into j) (trades_in_lem ++ item j ∷ []) =
            omega (
              arith,
              f.has_as j l,
              a.brings_as j j l l,
              over-marked (into j) (marked_of marks b.waiting),
              total-append (into j) trades_in_lem (item j ∷ []),
            )
            in
            let owes : owes_at figures j + takes legs j j ≡ total (out j) (trades_in_lem ++ item j ∷ []) =
            omega (
              arith,
              f.owes_as j l,
              a.takes_as j j l l,
              over-marked (out j) (marked_of marks b.waiting),
              total-append (out j) trades_in_lem (item j ∷ []),
            )
            in
            rw (has, owes) (missing-test (have j + total (into j) (trades_in_lem ++ item j ∷ [])) (total (out j) (trades_in_lem ++ item j ∷ [])))

        -- a leg can be added
        pub room_one : Room n legs j figures
        unfolding marked_of
        room_one = record {
          has = λ k h. omega (arith, f.has_as k h, a.rich k h, a.brings_as j k l h, a.into_small j k l h, into_most k h);
          owes = λ k h. omega (arith, f.owes_as k h, a.takes_as j k l h, a.out_small j k l h, out_most k h);
        }

        -- and then the figures are those under the marks with it
        pub more-figures :
            on j ≡ false → (more : ℕ) → is_on more j ≡ true → ((k : ℕ) → k < n → k ≢ j → is_on more k ≡ on k) → (after : List ℕ)
            → Figures n (λ k. has_at figures k + brings legs j k) (λ k. owes_at figures k + takes legs j k) after → FiguresOf b more debits after
        unfolding marked_of
        more-figures off more now e after g = record {
          long = g.long;
          has_as = λ k h. omega (arith, g.has_as k h, f.has_as k h, a.brings_as j k l h, over-more item n (into k) on (is_on more) j l off now e);
          owes_as = λ k h. omega (arith, g.owes_as k h, f.owes_as k h, a.takes_as j k l h, over-more item n (out k) on (is_on more) j l off now e);
        }

        module _ (marked : on j ≡ true) where
          part : (g : Item → ℕ) → g (item j) ≤ over g (marking on item n)
          part g =
              let s = sum-least n j (λ k. if on k then g (item k) else 0) l in
              let t = rw marked at s in
              omega (arith, over-sum item n g on, t)

          -- a marked leg can be taken away
          pub cover_one : Cover n legs j figures
          unfolding marked_of
          cover_one = record {
            has = λ k h. omega (arith, f.has_as k h, part (into k), a.brings_as j k l h);
            owes = λ k h. omega (arith, f.owes_as k h, part (out k), a.takes_as j k l h);
          }

          -- and then the figures are those under the marks without it
          pub less_figures :
              (less : ℕ) → is_on less j ≡ false → ((k : ℕ) → k < n → k ≢ j → on k ≡ is_on less k) → (after : List ℕ)
              → Figures n (λ k. has_at figures k - brings legs j k) (λ k. owes_at figures k - takes legs j k) after → FiguresOf b less debits after
          unfolding marked_of
          less_figures less gone e after g = record {
            long = g.long;
            has_as = λ k h. omega (arith, g.has_as k h, f.has_as k h, a.brings_as j k l h, over-more item n (into k) (is_on less) on j l gone marked e);
            owes_as = λ k h. omega (arith, g.owes_as k h, f.owes_as k h, a.takes_as j k l h, over-more item n (out k) (is_on less) on j l gone marked e);
          }
