-- The passes as code runs them: the marks, the trades that are still to be looked at, and beside them the figures of every item. Assumes nothing.
use Rattle.std.specs.Prelude.{if◌then◌else◌}
use Prim.Native.Nat.{ℕ, suc, ◌+◌, ◌≤◌, ◌<◌}
use native.Mathlib.Omega.{arith}
use native.Mathlib.Decide.{ℕ_discrete}
use mathlib.Core.Bool.{Bool, true, false, not, ◌&&◌, ◌||◌, false≢true, or-true, or-false, and-false}
use mathlib.Core.List.{List, [], ◌∷◌, ◌++◌, map}
use mathlib.Core.Logic.{◌≢◌}
use mathlib.Core.Path.{◌≡◌, refl, sym, ap, ap₂, ◌∙◌}
use borrow.Author.Tests.{eq-eqb, ne_eqb, ltb-true, ltb-false, lt-ltb, le-ltb, not-true}
use lib.Dec.{ltb}
use lib.ListN.{length, length-map, get_or, get_or-map}
use Rattle.plain.specs.Lists.{◌is◌, ◌is_not◌, ◌below◌, total}
use Rattle.plain.proofs.Lists.{total-append}
use Rattle.plain.proofs.Tests.{both}
use Rattle.rulebook.specs.Ledger.{Ledger}
use Rattle.rulebook.specs.Shortfall.{NothingShort, missing, delivers, pays, debits_short, any_short}
use Rattle.rulebook.specs.Selection.{Standing, Entry, not_due, taken, left, is_taken, is_left, trades_in, fits, pass, one_pass}
use Rattle.rulebook.specs.declared.Item.{Item}
use Rattle.rulebook.proofs.ByIndex.{each_at}
use Rattle.rulebook.proofs.Selection.Missing.{SameTotals, covered_same, none_short}
use Rattle.rulebook.proofs.Selection.Passes.{own_test}
use Rattle.words.specs.Places.{list_from}
use Rattle.words.proofs.Places.{from_get, length_from}
use Rattle.marks.specs.Marks.{Marked, First, with_mark, no_item, item_in, is_on, marked_of}
use Rattle.marks.proofs.Masks.{none_on}
use Rattle.marks.proofs.Marking.{marking, marking-same, by_places, over-more, over-marked}
use Rattle.legs.specs.Figures.{has_at, owes_at, brings, takes, Figures, Room, short_at, short_with}
use Rattle.legs.specs.Legs.{figures_in, SameLegs}
use Rattle.legs.specs.Slots.{viewed}
use Rattle.legs.specs.declared.figures.Legs.{Legs}
use Rattle.legs.specs.Ready.{Ready}
use Rattle.netting.specs.Rounds.{mark_of, due_mark}
use Rattle.netting.specs.Figured.{Figured}
use Rattle.netting.specs.Selected.{Started, Stands, Passed}
use Rattle.netting.proofs.Netting.{short_missing, with_missing, room_one, more-figures}
use Rattle.netting.proofs.Columns.{share_column, cash_column}
use Rattle.netting.proofs.Entries.{in_marked}
use Rattle.netting.proofs.Walk.{fits_at, walked, step_other, step_own, not_yet, skipped, kept_on, on_by, Entries, walk}

nor : (x y : Bool) → not ((x || y) || false) ≡ (not x && not y)
nor true y = refl
nor false y = ap not (or-false y)

module _ (b : Ledger) (r : Ready b) (due before : ℕ) (s : Started b due before) where
  abbrev item : ℕ → Item
  item k = item_in b.waiting k

  abbrev n : ℕ
  n = length b.waiting

  -- the trades that a pass looks at
  abbrev out : ℕ → Bool
  out k = is_on due k && not (is_on before k)

  abbrev to : ℕ → ℕ → Bool
  to = walked b.holdings item n out (is_on before)

  out_due : (k : ℕ) → out k ≡ true → (is_on due k ≡ true) × (is_on before k ≡ false)
  out_due k e = let p = both (is_on due k) (not (is_on before k)) e in (p.0, not-true (is_on before k) p.1)

  -- what is still to be looked at stands at i or behind it; before it all was
  pub record Passing (pending marks : ℕ) (shares cash : Legs) : Type 0 where
    pub i : ℕ
    pub inside : i ≤ n
    pub marks_as : (k : ℕ) → k < 64 → is_on marks k ≡ to i k
    pub pending_as : (k : ℕ) → k < 64 → is_on pending k ≡ (out k && not (k below i))
    pub figured : Figured b marks shares cash
    pub covered : NothingShort b.holdings (with_mark (marked_of marks b.waiting))

  -- ---- before the first

  pub begins :
      (pending : ℕ) (shares cash : Legs)
      → ((k : ℕ) → k < 64 → is_on pending k ≡ (if is_on before k then not (is_on due k) else is_on due k))
      → Figured b before shares cash → Passing pending before shares cash
  unfolding walked
  begins pending shares cash d f = record {
    i = 0;
    inside = omega arith;
    marks_as = λ k l. refl;
    pending_as = λ k l. d k l ∙ go k l (is_on before k) refl (is_on due k) refl;
    figured = f;
    covered = s.covered;
  }
    where
      go :
          (k : ℕ) → k < 64 → (x : Bool) → is_on before k ≡ x → (y : Bool) → is_on due k ≡ y
          → (if is_on before k then not (is_on due k) else is_on due k) ≡ (out k && not (k below 0))
      go k l true e true d = rw (e, d)
      go k l true e false d = absurd (false≢true (sym d ∙ s.within k l e))
      go k l false e true d = rw (e, d, le-ltb k 0 (omega arith))
      go k l false e false d = rw (e, d)

  module _ {pending marks : ℕ} {shares cash : Legs} (w : Passing pending marks shares cash) where
    abbrev trades_in_lem : List Item
    trades_in_lem = with_mark (marked_of marks b.waiting)

    -- ---- the next one

    module _ {j : ℕ} (f : First pending j) where
      looked : out j && not (j below w.i) ≡ true
      looked = sym (w.pending_as j f.inside) ∙ f.on

      is_out_lem : out j ≡ true
      is_out_lem = (both (out j) (not (j below w.i)) looked).0

      pub there : j < n
      there = go (ltb j n) refl
        where
          go : (t : Bool) → ltb j n ≡ t → j < n
          go true t = ltb-true j n t
          go false t = absurd (false≢true (sym (s.behind j (ltb-false j n t) f.inside) ∙ (out_due j is_out_lem).0))

      later : w.i ≤ j
      later = ltb-false j w.i (not-true (j below w.i) (both (out j) (not (j below w.i)) looked).1)

      -- none of those between is looked at
      between : (k : ℕ) → w.i ≤ k → k < j → out k ≡ false
      between k a c =
          let l : k < 64 = omega (arith, c, f.inside) in
          go (out k) refl (sym (w.pending_as k l) ∙ f.none_before k c) (le-ltb k w.i a)
        where
          go : (x : Bool) → out k ≡ x → (out k && not (k below w.i)) ≡ false → (k below w.i) ≡ false → out k ≡ false
          go true e p q = absurd (false≢true (sym (rw (e, q) at p)))
          go false e p q = e

      pub off : is_on marks j ≡ false
      off = w.marks_as j f.inside ∙ not_yet b.holdings item n out (is_on before) w.i j later ∙ (out_due j is_out_lem).1

      jumped : (k : ℕ) → k < 64 → is_on marks k ≡ to j k
      jumped k l = w.marks_as k l ∙ sym (skipped b.holdings item n out (is_on before) j w.i later between k)

      -- the code's tests are the definition's

      abbrev held_in : List ℕ
      held_in = figures_in shares

      abbrev funds_in : List ℕ
      funds_in = figures_in cash

      here : marked_of marks b.waiting ≡ marking (to j) item n
      unfolding marked_of
      here = marking-same item n (is_on marks) (to j) (λ k l. jumped k (omega (arith, l, r.size)))

      abbrev own : Entry
      own = record { item = item j; others = []; standing = taken }

      pub tested : fits_at b.holdings item n out (is_on before) (to j) j ≡ (not (short_with shares.legs held_in j) && not (short_with cash.legs funds_in j))
      unfolding fits debits_short
      tested =
          let ts : List Item = trades_in_lem ++ item j ∷ [] in
          ap (λ (ms : List Marked). not (any_short b.holdings (with_mark ms ++ item j ∷ []))) (sym here)
          ∙ own_test b.holdings trades_in_lem own w.covered
          ∙ nor (missing b.holdings ts (delivers (item j)) is_not 0) (missing b.holdings ts (pays (item j)) is_not 0)
          ∙ ap₂ (λ (x y : Bool). not x && not y)
          (sym (with_missing b delivers shares.legs (share_column b r shares.legs w.figured.share_legs) marks held_in w.figured.held_figures j there))
          (sym (with_missing b pays cash.legs (cash_column b r cash.legs w.figured.cash_legs) marks funds_in w.figured.funds_figures j there))

      -- what it needs: neither place is short yet, and there is room

      pub held-fine : short_at held_in j ≡ false
      held-fine =
          short_missing b delivers shares.legs (share_column b r shares.legs w.figured.share_legs) marks held_in w.figured.held_figures j there
          ∙ ap (λ (x : ℕ). x is_not 0) (w.covered (delivers (item j)))

      pub funds_fine : short_at funds_in j ≡ false
      funds_fine =
          short_missing b pays cash.legs (cash_column b r cash.legs w.figured.cash_legs) marks funds_in w.figured.funds_figures j there
          ∙ ap (λ (x : ℕ). x is_not 0) (w.covered (pays (item j)))

      pub held-room : Room n shares.legs j held_in
      held-room = room_one b delivers shares.legs (share_column b r shares.legs w.figured.share_legs) marks held_in w.figured.held_figures j there

      pub funds_room : Room n cash.legs j funds_in
      funds_room = room_one b pays cash.legs (cash_column b r cash.legs w.figured.cash_legs) marks funds_in w.figured.funds_figures j there

      -- ---- once it was looked at

      module _ (less : ℕ) (flips : (k : ℕ) → k < 64 → is_on less k ≡ (if k is j then not (is_on pending j) else is_on pending k)) where
        next : (k : ℕ) → k < 64 → is_on less k ≡ (out k && not (k below suc j))
        next k l = go (ℕ_discrete k j) (ltb k j) refl
          where
            go : Dec (k ≡ j) → (t : Bool) → ltb k j ≡ t → is_on less k ≡ (out k && not (k below suc j))
            go (yes e) t p =
                flips k l ∙ rw (eq-eqb k j e, f.on) (sym (rw (lt-ltb k (suc j) (omega (arith, e))) (and-false (out k))))
            go (no d) true p =
                let a : k < j = ltb-true k j p in
                flips k l ∙ rw (ne_eqb k j d) (f.none_before k a ∙ sym (rw (lt-ltb k (suc j) (omega (arith, a))) (and-false (out k))))
            go (no d) false p =
                let a : j < k = omega (arith, ltb-false k j p, d) in
                flips k l
                ∙ rw (ne_eqb k j d)
                (w.pending_as k l ∙ rw (le-ltb k w.i (omega (arith, later, a)), le-ltb k (suc j) (omega (arith, a))))

        -- it does not fit
        pub refused : fits_at b.holdings item n out (is_on before) (to j) j ≡ false → Passing less marks shares cash
        refused not-fits = record {
          i = suc j;
          inside = omega (arith, there);
          marks_as = λ k l. jumped k l ∙ sym (at k (ℕ_discrete k j));
          pending_as = next;
          figured = w.figured;
          covered = w.covered;
        }
          where
            at : (k : ℕ) → Dec (k ≡ j) → to (suc j) k ≡ to j k
            at k (yes e) =
                ap (to (suc j)) e ∙ step_own b.holdings item n out (is_on before) j ∙ rw (not-fits, and-false (out j)) (or-false (to j j)) ∙ ap (to j) (sym e)
            at k (no d) = step_other b.holdings item n out (is_on before) j k d

        -- it fits: it is added
        module _ (does-fit : fits_at b.holdings item n out (is_on before) (to j) j ≡ true) (more : ℕ)
            (adds : (k : ℕ) → k < 64 → is_on more k ≡ (if k is j then not (is_on marks j) else is_on marks k)) where
          now : is_on more j ≡ true
          now = adds j f.inside ∙ rw (eq-eqb j j refl, off)

          others : (k : ℕ) → k < 64 → k ≢ j → is_on more k ≡ is_on marks k
          others k l d = adds k l ∙ rw (ne_eqb k j d)

          others_in : (k : ℕ) → k < n → k ≢ j → is_on more k ≡ is_on marks k
          others_in k l d = others k (omega (arith, l, r.size)) d

          more-as : (k : ℕ) → k < 64 → is_on more k ≡ to (suc j) k
          more-as k l = at (ℕ_discrete k j)
            where
              at : Dec (k ≡ j) → is_on more k ≡ to (suc j) k
              at (yes e) =
                  ap (is_on more) e ∙ now
                  ∙ sym (ap (to (suc j)) e ∙ step_own b.holdings item n out (is_on before) j ∙ rw (is_out_lem, does-fit) (or-true (to j j)))
              at (no d) = others k l d ∙ jumped k l ∙ sym (step_other b.holdings item n out (is_on before) j k d)

          totals : SameTotals (trades_in_lem ++ item j ∷ []) (with_mark (marked_of more b.waiting))
          unfolding marked_of
          totals g =
              omega (
                arith,
                total-append g trades_in_lem (item j ∷ []),
                over-more item n g (is_on marks) (is_on more) j there off now others_in,
                over-marked g (marking (is_on marks) item n),
                over-marked g (marking (is_on more) item n),
              )

          still_covered : NothingShort b.holdings (with_mark (marked_of more b.waiting))
          still_covered =
              covered_same b.holdings (trades_in_lem ++ item j ∷ []) (with_mark (marked_of more b.waiting)) totals
              (none_short b.holdings (trades_in_lem ++ item j ∷ [])
              (ap (λ (ms : List Marked). any_short b.holdings (with_mark ms ++ item j ∷ [])) here ∙ not-true _ does-fit))

          pub added :
              (shares' cash' : Legs) → SameLegs shares shares' → SameLegs cash cash'
              → Figures n (λ k. has_at held_in k + brings shares.legs j k) (λ k. owes_at held_in k + takes shares.legs j k)
              (viewed shares.slots shares'.figures)
              → Figures n (λ k. has_at funds_in k + brings cash.legs j k) (λ k. owes_at funds_in k + takes cash.legs j k) (viewed cash.slots cash'.figures)
              → Passing less more shares' cash'
          added shares' cash' p q h g = record {
            i = suc j;
            inside = omega (arith, there);
            marks_as = more-as;
            pending_as = next;
            figured = record {
              share_trades = p.trades ∙ w.figured.share_trades;
              share_legs = rw p.legs w.figured.share_legs;
              held_figures =
                  rw p.slots
                  (more-figures b delivers shares.legs (share_column b r shares.legs w.figured.share_legs) marks held_in w.figured.held_figures j there off
                  more now others_in (viewed shares.slots shares'.figures) h);
              cash_trades = q.trades ∙ w.figured.cash_trades;
              cash_legs = rw q.legs w.figured.cash_legs;
              funds_figures =
                  rw q.slots
                  (more-figures b pays cash.legs (cash_column b r cash.legs w.figured.cash_legs) marks funds_in w.figured.funds_figures j there off more
                  now others_in (viewed cash.slots cash'.figures) g);
            };
            covered = still_covered;
          }

    -- ---- once none is left to look at

    module _ (none : pending ≡ 0) where
      all_done : (k : ℕ) → k < 64 → is_on marks k ≡ to n k
      all_done k l =
          w.marks_as k l
          ∙ sym (skipped b.holdings item n out (is_on before) n w.i w.inside (λ m a c. over m a (omega (arith, c, r.size))) k)
        where
          over : (m : ℕ) → w.i ≤ m → m < 64 → out m ≡ false
          over m a c = go (out m) refl (sym (w.pending_as m c) ∙ ap (λ (x : ℕ). is_on x m) none ∙ none_on m) (le-ltb m w.i a)
            where
              go : (x : Bool) → out m ≡ x → (out m && not (m below w.i)) ≡ false → (m below w.i) ≡ false → out m ≡ false
              go true e p q = absurd (false≢true (sym (rw (e, q) at p)))
              go false e p q = e

      -- the entries that have these marks
      module _ (es : List Entry) (d : Stands b due before es) where
        abbrev no_entry : Entry
        no_entry = record { item = no_item; others = []; standing = not_due }

        abbrev ent : ℕ → Entry
        ent k = get_or es k no_entry

        long : length es ≡ n
        unfolding marked_of
        long = sym (length-map es mark_of) ∙ ap length (sym d.marked) ∙ length_from (λ k. (is_on before k, item k)) 0 n

        at_marks : (marks : ℕ) (of : Entry → Marked) → marked_of marks b.waiting ≡ map of es → (k : ℕ) → k < n → of (ent k) ≡ (is_on marks k, item k)
        unfolding marked_of
        at_marks marks of e k l =
            let z : 0 + k ≡ k = omega arith in
            sym (get_or-map of es k no_entry) ∙ ap (λ (ms : List Marked). get_or ms k (of no_entry)) (sym e)
            ∙ from_get (λ i. (is_on marks i, item i)) 0 n k (of no_entry) l ∙ ap (λ (i : ℕ). (is_on marks i, item i)) z

        left_out : (x : Standing) → is_left x ≡ ((is_taken x || is_left x) && not (is_taken x))
        left_out not_due = refl
        left_out taken = refl
        left_out (left lacked) = refl

        are_entries : Entries b.holdings item n out (is_on before) ent
        are_entries = record {
          items = λ k l. ap (λ (m : Marked). m.1) (at_marks before mark_of d.marked k l);
          alone = λ k l. each_at (λ e. e.others ≡ []) es k no_entry d.alone (rw long l);
          ins = λ k l. ap (λ (m : Marked). m.0) (at_marks before mark_of d.marked k l);
          outs = λ k l.
              left_out (ent k).standing
              ∙ ap₂ (λ (x y : Bool). x && not y) (ap (λ (m : Marked). m.0) (at_marks due due_mark d.all k l))
              (ap (λ (m : Marked). m.0) (at_marks before mark_of d.marked k l));
          apart = λ k l e. (out_due k e).1;
        }

        in_before : SameTotals (trades_in es) (with_mark (marking (to 0) item n))
        unfolding marked_of walked
        in_before g = ap (total g) (in_marked es d.alone ∙ ap with_mark (sym d.marked))

        pub one_pass_lem : marked_of marks b.waiting ≡ map mark_of (one_pass b.holdings es)
        unfolding marked_of
        one_pass_lem =
            marking-same item n (is_on marks) (to n) (λ k l. all_done k (omega (arith, l, r.size)))
            ∙ sym (walk b.holdings item n out (is_on before) ent are_entries n 0 (omega arith) (trades_in es) in_before)
            ∙ ap (λ (l : List Entry). map mark_of (pass b.holdings (trades_in es) l))
            (ap (λ (m : ℕ). list_from ent 0 m) (sym long) ∙ by_places no_entry es)

      pub done : Passed b due before marks
      done = record {
        started = record {
          behind = s.behind;
          within = λ k l e.
              on_by b.holdings item n out (is_on before) (λ m. m < 64 → is_on due m ≡ true) (λ m a c. s.within m c a) (λ m a c. (out_due m a).0) n k
              (sym (all_done k l) ∙ e) l;
          covered = w.covered;
        };
        kept = λ k l e. all_done k l ∙ kept_on b.holdings item n out (is_on before) n k e;
        passed = one_pass_lem;
      }
