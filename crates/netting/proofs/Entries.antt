-- Rounds and passes by marks are those of the selection, where each trade goes by itself. Assumes nothing.
use Rattle.std.specs.Prelude.{if◌then◌else◌}
use mathlib.Core.Path.{◌≡◌, refl, sym, ap, ap₂, subst, ◌∙◌}
use mathlib.Core.Bool.{Bool, true, false, ◌&&◌, ◌||◌, or-false}
use mathlib.Core.List.{List, [], ◌∷◌, map}
use Prim.Native.Nat.{ℕ, zero, suc, ◌+◌}
use native.Mathlib.Omega.{arith}
use lib.ListN.{length, length-map}
use Rattle.plain.specs.Lists.{some}
use Rattle.rulebook.specs.Ledger.{Ledger, Holdings}
use Rattle.rulebook.specs.Shortfall.{NothingShort, debits_short, any_short}
use Rattle.rulebook.specs.Selection.{Standing, Entry, not_due, taken, left, is_taken, is_left, trades_in, drops, drop_last, rounds, dropping, passes}
use Rattle.rulebook.specs.Selection.{selection_in, full_selection, due, entry_by, entries, selection}
use Rattle.rulebook.specs.Cycle.{left_by}
use Rattle.rulebook.specs.Selected.{Spot, spot}
use Rattle.rulebook.specs.declared.Item.{Item}
use Rattle.rulebook.proofs.Selection.Alone.{Alone, AloneAt, alone_at, at_alone, entries-alone}
use Rattle.rulebook.proofs.Selection.Dropping.{round_of, dropping-covered, dropping-spots}
use Rattle.rulebook.proofs.Selection.Selected.{dropping-length}
use Rattle.rulebook.proofs.Selection.Fixing.{selection-alone, left-and_in}
use Rattle.marks.specs.Marks.{Marked, with_mark, item_in, is_on, marked_of, count_on}
use Rattle.marks.proofs.Marking.{count_marked}
use Rattle.netting.specs.Rounds.{mark_of, due_mark, unmark_last, mark_rounds}
use Rattle.netting.specs.Selected.{Taken, Netted, Started, Stands, AllPassed}

-- the trades that are in are those with a mark
pub in_marked : (es : List Entry) → Alone es → trades_in es ≡ with_mark (map mark_of es)
unfolding trades_in with_mark
in_marked [] a = refl
in_marked (e ∷ rest) a = go e.standing refl (in_marked rest a.1)
  where
    go : (s : Standing) → e.standing ≡ s → trades_in rest ≡ with_mark (map mark_of rest) → trades_in (e ∷ rest) ≡ with_mark (map mark_of (e ∷ rest))
    go not_due k ih = simp k ih
    go taken k ih = simp (k, a.0) (ap (λ l. e.item ∷ l) ih)
    go (left lacked) k ih = simp k ih

-- one round
module _ (h : Holdings) (now : List Item) where
  abbrev drawn : Marked → Bool
  drawn m = m.0 && debits_short h now m.1

  drops_same : (e : Entry) → e.others ≡ [] → drops h now e ≡ drawn (mark_of e)
  unfolding drops
  drops_same e o = simp (o, or-false)

  some_same : (es : List Entry) → Alone es → some (drops h now) es ≡ some drawn (map mark_of es)
  some_same [] a = refl
  some_same (e ∷ rest) a = simp (drops_same e a.0, some_same rest a.1)

  drop_same : (es : List Entry) → Alone es → map mark_of (drop_last h now es) ≡ unmark_last (debits_short h now) (map mark_of es)
  unfolding drop_last unmark_last
  drop_same [] a = refl
  drop_same (e ∷ rest) a = go (some drawn (map mark_of rest)) refl (drawn (mark_of e)) refl (drop_same rest a.1)
    where
      go :
          (s : Bool) → some drawn (map mark_of rest) ≡ s → (d : Bool) → drawn (mark_of e) ≡ d
          → map mark_of (drop_last h now rest) ≡ unmark_last (debits_short h now) (map mark_of rest)
          → map mark_of (drop_last h now (e ∷ rest)) ≡ unmark_last (debits_short h now) (map mark_of (e ∷ rest))
      go true s d k ih = simp (some_same rest a.1, s, ih)
      go false s true k ih = simp (some_same rest a.1, s, drops_same e a.0, k)
      go false s false k ih = simp (some_same rest a.1, s, drops_same e a.0, k)

rounds-same : (h : Holdings) (n : ℕ) (es : List Entry) → Alone es → map mark_of (rounds n h es) ≡ mark_rounds n h (map mark_of es)
unfolding rounds mark_rounds
rounds-same h zero es a = refl
rounds-same h (suc n) es a = go (any_short h (trades_in es)) refl (rounds-same h n next (at_alone next alone))
  where
    next : List Entry
    next = drop_last h (trades_in es) es

    alone : AloneAt (map spot next)
    alone = subst AloneAt (sym (round_of h es).spots) (alone_at es a)

    go :
        (b : Bool) → any_short h (trades_in es) ≡ b → map mark_of (rounds n h next) ≡ mark_rounds n h (map mark_of next)
        → map mark_of (rounds (suc n) h es) ≡ mark_rounds (suc n) h (map mark_of es)
    go true k ih = simp (sym (in_marked es a), k) (ih ∙ ap (mark_rounds n h) (drop_same h (trades_in es) es a))
    go false k ih = simp (sym (in_marked es a), k)

-- the waiting list's entries by their marks
pub entries-marked : (b : Ledger) → map mark_of (entries b) ≡ map (λ item. (due b.day.number item, item)) b.waiting
unfolding entries entry_by
entries-marked b = go b.waiting
  where
    one : (t : Bool) (i : Item) → ◌≡◌ {A = Marked} (is_taken (if t then taken else not_due), i) (t, i)
    one true i = refl
    one false i = refl

    go :
        (ws : List Item)
        → map mark_of (map (entry_by (due b.day.number) (λ item. [])) ws) ≡ map (λ item. (due b.day.number item, item)) ws
    go [] = refl
    go (w ∷ rest) = ap₂ ◌∷◌ (one (due b.day.number w) w) (go rest)

-- ---- the dropping, and what the passes start from

module _ (b : Ledger) where
  abbrev dropped : List Entry
  dropped = dropping b.holdings (entries b)

  abbrev is_in : Item → Bool
  is_in = due b.day.number

  entries-by_one : Alone (entries b)
  unfolding entries
  entries-by_one = entries-alone is_in b.waiting

  dropped-alone : Alone dropped
  dropped-alone = at_alone dropped (subst AloneAt (sym (dropping-spots b.holdings (entries b))) (alone_at (entries b) entries-by_one))

  dropped-marked : map mark_of dropped ≡ mark_rounds (length b.waiting) b.holdings (map mark_of (entries b))
  unfolding dropping entries
  dropped-marked =
      rounds-same b.holdings (length (entries b)) (entries b) entries-by_one ∙ simp (length-map b.waiting (entry_by is_in (λ item. [])))

  -- what is due is in or left, and before the dropping it is in
  pub due-spots : (es : List Entry) → map due_mark es ≡ map (λ s. (s.is_due, s.item)) (map spot es)
  due-spots [] = refl
  due-spots (e ∷ rest) = ap (λ (l : List Marked). due_mark e ∷ l) (due-spots rest)

  entries-due : map due_mark (entries b) ≡ map mark_of (entries b)
  unfolding entries entry_by
  entries-due = go b.waiting
    where
      one : (t : Bool) (i : Item) → (is_taken (if t then taken else not_due) || is_left (if t then taken else not_due)) ≡ is_taken (if t then taken else not_due)
      one true i = refl
      one false i = refl

      go : (ws : List Item) → map due_mark (map (entry_by is_in (λ item. [])) ws) ≡ map mark_of (map (entry_by is_in (λ item. [])) ws)
      go [] = refl
      go (w ∷ rest) = ap₂ ◌∷◌ (ap (λ (x : Bool). (x, w)) (one (is_in w) w)) (go rest)

  module _ (first kept : ℕ) (t : Taken b first) (n : Netted b first kept) where
    kept-marked : marked_of kept b.waiting ≡ map mark_of dropped
    kept-marked = n.marked ∙ ap (mark_rounds (length b.waiting) b.holdings) t.marked ∙ sym dropped-marked

    pub started : Started b first kept
    started = record {
      behind = t.behind;
      within = n.within;
      covered =
          subst (NothingShort b.holdings) (in_marked dropped dropped-alone ∙ ap with_mark (sym kept-marked)) (dropping-covered b.holdings (entries b));
    }

    pub stands : Stands b first kept dropped
    stands = record {
      all =
          t.marked ∙ sym entries-due ∙ due-spots (entries b)
          ∙ ap (map (λ (s : Spot). (s.is_due, s.item))) (sym (dropping-spots b.holdings (entries b))) ∙ sym (due-spots dropped);
      marked = kept-marked;
      alone = dropped-alone;
    }

    -- all passes behind the dropping are the selection
    pub selected : (fixed : ℕ) → AllPassed b first kept fixed → marked_of fixed b.waiting ≡ map mark_of (selection b)
    unfolding selection full_selection selection_in
    selected fixed p =
        p dropped stands ∙ ap (λ (m : ℕ). map mark_of (passes m b.holdings dropped)) (dropping-length b.holdings (entries b))

  -- ---- how many

  -- the entries that are in are those with a mark
  pub on_in : (es : List Entry) → Alone es → (m : ℕ) → marked_of m b.waiting ≡ map mark_of es → count_on (is_on m) (length b.waiting) ≡ length (trades_in es)
  unfolding marked_of
  on_in es a m e =
      sym (count_marked (item_in b.waiting) (length b.waiting) (is_on m)) ∙ ap (λ (ms : List Marked). length (with_mark ms)) e
      ∙ ap length (sym (in_marked es a))

  -- those that are fixed and those that are left are the due ones
  pub counted :
      (first fixed : ℕ) → Taken b first → marked_of fixed b.waiting ≡ map mark_of (selection b)
      → count_on (is_on fixed) (length b.waiting) + left_by b ≡ count_on (is_on first) (length b.waiting)
  counted first fixed t e =
      omega (arith, on_in (selection b) (selection-alone b) fixed e, on_in (entries b) entries-by_one first t.marked, left-and_in b)
