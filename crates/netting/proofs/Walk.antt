-- A pass by places: which trades have a mark once the first i were looked at; that is the pass of the selection. Assumes nothing.
use Rattle.std.specs.Prelude.{if◌then◌else◌}
use Prim.Native.Nat.{ℕ, zero, suc, ◌+◌, ◌≤◌, ◌<◌}
use native.Mathlib.Omega.{arith}
use native.Mathlib.Decide.{ℕ_discrete}
use mathlib.Core.Bool.{Bool, true, false, not, ◌&&◌, ◌||◌, or-true, or-false, false≢true}
use mathlib.Core.List.{List, [], ◌∷◌, ◌++◌, map}
use mathlib.Core.Logic.{◌≢◌}
use mathlib.Core.Path.{◌≡◌, refl, sym, ap, ap₂, ◌∙◌}
use borrow.Author.Tests.{eq-eqb, ne_eqb}
use Rattle.plain.specs.Lists.{◌is◌, total}
use Rattle.plain.proofs.Lists.{total-append}
use Rattle.plain.proofs.Tests.{both}
use Rattle.rulebook.specs.Ledger.{Holdings}
use Rattle.rulebook.specs.Shortfall.{any_short}
use Rattle.rulebook.specs.Selection.{Entry, trades_of, is_taken, is_left, fits, pass}
use Rattle.rulebook.specs.declared.Item.{Item}
use Rattle.rulebook.proofs.Selection.Missing.{SameTotals}
use Rattle.rulebook.proofs.Selection.Passes.{fits-same}
use Rattle.words.specs.Places.{list_from}
use Rattle.marks.specs.Marks.{Marked, with_mark}
use Rattle.marks.proofs.Marking.{marking, marking-same, over-more, over-marked}
use Rattle.netting.specs.Rounds.{mark_of}

-- `start` has the marks before the pass, and `out` those of the trades that it looks at
module _ (h : Holdings) (item : ℕ → Item) (n : ℕ) (out start : ℕ → Bool) where
  -- with these marks, the trade at i fits
  abbrev pub fits_at : (ℕ → Bool) → ℕ → Bool
  fits_at on i = not (any_short h (with_mark (marking on item n) ++ item i ∷ []))

  unfoldable pub walked : ℕ → ℕ → Bool
  walked zero k = start k
  walked (suc i) k = if k is i then (walked i k || (out k && fits_at (walked i) k)) else walked i k

  -- ---- what one step changes

  pub step_other : (i k : ℕ) → k ≢ i → walked (suc i) k ≡ walked i k
  unfolding walked
  step_other i k d = rw (ne_eqb k i d)

  pub step_own : (i : ℕ) → walked (suc i) i ≡ (walked i i || (out i && fits_at (walked i) i))
  unfolding walked
  step_own i = rw (eq-eqb i i refl)

  pub not_yet : (i k : ℕ) → i ≤ k → walked i k ≡ start k
  unfolding walked
  not_yet zero k l = refl
  not_yet (suc i) k l = rw (ne_eqb k i (λ e. omega (arith, e, l))) (not_yet i k (omega arith))

  -- a place that was looked at stays as it is
  pub stays : (j i k : ℕ) → k < i → i ≤ j → walked j k ≡ walked i k
  unfolding walked
  stays zero i k l m = absurd (omega arith)
  stays (suc j) i k l m = go (ℕ_discrete i (suc j)) (stays j i k l)
    where
      go : Dec (i ≡ suc j) → (i ≤ j → walked j k ≡ walked i k) → walked (suc j) k ≡ walked i k
      go (yes e) ih = ap (λ (x : ℕ). walked x k) (sym e)
      go (no d) ih = step_other j k (λ e. omega (arith, e, l, m, d)) ∙ ih (omega (arith, m, d))

  -- where none is looked at, nothing changes
  pub skipped : (j i : ℕ) → i ≤ j → ((k : ℕ) → i ≤ k → k < j → out k ≡ false) → (k : ℕ) → walked j k ≡ walked i k
  unfolding walked
  skipped zero i l f k = ap (λ (x : ℕ). walked x k) (let e : 0 ≡ i = omega arith in e)
  skipped (suc j) i l f k = go (ℕ_discrete i (suc j)) (λ m. skipped j i m (λ x a c. f x a (omega arith)) k)
    where
      at : Dec (k ≡ j) → i ≤ j → walked (suc j) k ≡ walked j k
      at (yes e) m =
          let off : out k ≡ false = ap out e ∙ f j m (omega arith) in
          rw (eq-eqb k j e, off) (or-false (walked j k))
      at (no d) m = step_other j k d

      go : Dec (i ≡ suc j) → (i ≤ j → walked j k ≡ walked i k) → walked (suc j) k ≡ walked i k
      go (yes e) ih = ap (λ (x : ℕ). walked x k) (sym e)
      go (no d) ih = let m : i ≤ j = omega (arith, l, d) in at (ℕ_discrete k j) m ∙ ih m

  -- no mark is taken away, and a new one is of a trade that was looked at
  pub kept_on : (i k : ℕ) → start k ≡ true → walked i k ≡ true
  unfolding walked
  kept_on zero k s = s
  kept_on (suc i) k s = go (k is i) (kept_on i k s)
    where
      go : (t : Bool) → walked i k ≡ true → (if t then (walked i k || (out k && fits_at (walked i) k)) else walked i k) ≡ true
      go true ih = rw ih
      go false ih = ih

  pub on_by : (P : ℕ → Type 0) → ((k : ℕ) → start k ≡ true → P k) → ((k : ℕ) → out k ≡ true → P k) → (i k : ℕ) → walked i k ≡ true → P k
  unfolding walked
  on_by P s o zero k w = s k w
  on_by P s o (suc i) k w = go (k is i) w (walked i k) refl (on_by P s o i k)
    where
      go :
          (t : Bool) → (if t then (walked i k || (out k && fits_at (walked i) k)) else walked i k) ≡ true → (x : Bool) → walked i k ≡ x
          → (walked i k ≡ true → P k) → P k
      go t v true e ih = ih e
      go true v false e ih = o k (both (out k) (fits_at (walked i) k) (rw e at v)).0
      go false v false e ih = absurd (false≢true (sym e ∙ v))

  -- ---- entries of which these are the marks

  pub record Entries (ent : ℕ → Entry) : Type 0 where
    pub items : (k : ℕ) → k < n → (ent k).item ≡ item k
    pub alone : (k : ℕ) → k < n → (ent k).others ≡ []
    pub ins : (k : ℕ) → k < n → is_taken (ent k).standing ≡ start k
    pub outs : (k : ℕ) → k < n → is_left (ent k).standing ≡ out k
    pub apart : (k : ℕ) → k < n → out k ≡ true → start k ≡ false

  module _ (ent : ℕ → Entry) (f : Entries ent) where
    abbrev before : ℕ → List Item
    before i = with_mark (marking (walked i) item n)

    trades_are : (i : ℕ) → i < n → trades_of (ent i) ≡ item i ∷ []
    trades_are i l = ap₂ ◌∷◌ (f.items i l) (f.alone i l)

    test_same : (i : ℕ) → i < n → (now : List Item) → SameTotals now (before i)
        → (is_left (ent i).standing && fits h now (ent i)) ≡ (out i && fits_at (walked i) i)
    unfolding fits
    test_same i l now s =
        ap₂ ◌&&◌ (f.outs i l)
        (fits-same h now (before i) (ent i) s ∙ ap (λ (ts : List Item). not (any_short h (before i ++ ts))) (trades_are i l))

    -- the totals with the trade at i, and without
    more-totals : (i : ℕ) → i < n → (now : List Item) → SameTotals now (before i) → (out i && fits_at (walked i) i) ≡ true
        → SameTotals (now ++ trades_of (ent i)) (before (suc i))
    more-totals i l now s t g =
        let off : walked i i ≡ false = not_yet i i (omega arith) ∙ f.apart i l (both (out i) (fits_at (walked i) i) t).0 in
        let on : walked (suc i) i ≡ true = step_own i ∙ rw (off, t) in
        let sum = over-more item n g (walked i) (walked (suc i)) i l off on (λ k m d. step_other i k d) in
        let own : total g (trades_of (ent i)) ≡ g (item i) = ap (total g) (trades_are i l) ∙ omega arith in
        omega (
          arith,
          s g,
          sum,
          own,
          total-append g now (trades_of (ent i)),
          over-marked g (marking (walked i) item n),
          over-marked g (marking (walked (suc i)) item n),
        )

    same_totals : (i : ℕ) (now : List Item) → SameTotals now (before i) → (out i && fits_at (walked i) i) ≡ false → SameTotals now (before (suc i))
    same_totals i now s t g =
        let same : (k : ℕ) → k < n → walked (suc i) k ≡ walked i k = λ k l. at k (ℕ_discrete k i) in
        s g ∙ ap (λ (ms : List Marked). total g (with_mark ms)) (sym (marking-same item n (walked (suc i)) (walked i) same))
      where
        at : (k : ℕ) → Dec (k ≡ i) → walked (suc i) k ≡ walked i k
        at k (yes e) = ap (walked (suc i)) e ∙ step_own i ∙ ap (λ (x : Bool). walked i i || x) t ∙ or-false (walked i i) ∙ ap (walked i) (sym e)
        at k (no d) = step_other i k d

    -- the mark of the trade at i, once all were looked at
    last_on : (i : ℕ) → i < n → walked n i ≡ (start i || (out i && fits_at (walked i) i))
    last_on i l =
        stays n (suc i) i (omega arith) (omega arith) ∙ step_own i
        ∙ ap (λ (x : Bool). x || (out i && fits_at (walked i) i)) (not_yet i i (omega arith))

    pub walk :
        (m i : ℕ) → i + m ≡ n → (now : List Item) → SameTotals now (before i)
        → map mark_of (pass h now (list_from ent i m)) ≡ list_from (λ k. (walked n k, item k)) i m
    unfolding pass list_from
    walk zero i e now s = refl
    walk (suc m) i e now s = go (out i && fits_at (walked i) i) refl (walk m (suc i) (omega arith))
      where
        low : i < n
        low = omega (arith, e)

        go :
            (t : Bool) → (out i && fits_at (walked i) i) ≡ t
            → ((now : List Item) → SameTotals now (before (suc i))
            → map mark_of (pass h now (list_from ent (suc i) m)) ≡ list_from (λ k. (walked n k, item k)) (suc i) m)
            → map mark_of (pass h now (list_from ent i (suc m))) ≡ list_from (λ k. (walked n k, item k)) i (suc m)
        go true t ih =
            let head : ◌≡◌ {A = Marked} (true, (ent i).item) (walked n i, item i) =
            ap₂ (λ (x : Bool) (y : Item). (x, y)) (sym (last_on i low ∙ ap (λ (x : Bool). start i || x) t ∙ or-true (start i))) (f.items i low)
            in
            rw (test_same i low now s, t) (ap₂ ◌∷◌ head (ih (now ++ trades_of (ent i)) (more-totals i low now s t)))
        go false t ih =
            let head : ◌≡◌ {A = Marked} (is_taken (ent i).standing, (ent i).item) (walked n i, item i) =
            ap₂ (λ (x : Bool) (y : Item). (x, y))
            (f.ins i low ∙ sym (or-false (start i)) ∙ sym (last_on i low ∙ ap (λ (x : Bool). start i || x) t)) (f.items i low)
            in
            rw (test_same i low now s, t) (ap₂ ◌∷◌ head (ih now (same_totals i now s t)))
