-- Pass after pass, as code makes them, until one gives no mark back. Assumes nothing.
use Rattle.std.specs.Prelude.{if◌then◌else◌}
use Prim.Native.Nat.{ℕ, zero, suc, ◌+◌, ◌-◌, ◌^◌, ◌≤◌, ◌<◌}
use native.Mathlib.Omega.{arith}
use mathlib.Core.Bool.{Bool, true, false, false≢true}
use mathlib.Core.List.{List, [], ◌∷◌, map}
use mathlib.Core.Path.{◌≡◌, refl, sym, ap, subst, ◌∙◌}
use borrow.Author.Tests.{eq-eqb, ne_eqb, ltb-true, ltb-false}
use lib.Dec.{ltb}
use lib.ListN.{length, get_or}
use Rattle.plain.specs.Lists.{total}
use Rattle.rulebook.specs.Ledger.{Ledger}
use Rattle.rulebook.specs.Selection.{Standing, Entry, not_due, taken, left, trades_in, count_left, one_pass, passes}
use Rattle.rulebook.specs.Selected.{Spot, spot}
use Rattle.rulebook.proofs.Selection.Alone.{AloneAt, alone_at, at_alone}
use Rattle.rulebook.proofs.Selection.Passes.{passed}
use Rattle.rulebook.proofs.Selection.Selected.{left-most}
use Rattle.words.proofs.Places.{from_get}
use Rattle.marks.specs.Marks.{Marked, no_item, item_in, is_on, marked_of, count_on}
use Rattle.marks.proofs.Masks.{on_same}
use Rattle.marks.proofs.Marking.{count_same}
use Rattle.netting.specs.Rounds.{mark_of}
use Rattle.netting.specs.Selected.{Started, Stands, Passed}
use Rattle.netting.proofs.Entries.{due-spots}

-- those that are in and those that are left are those that are due
in_left :
    (es : List Entry)
    → total (λ (m : Marked). if m.0 then 1 else 0) (map mark_of es) + count_left es ≡ total (λ (s : Spot). if s.is_due then 1 else 0) (map spot es)
unfolding count_left
in_left [] = refl
in_left (e ∷ rest) = go e.standing refl (in_left rest)
  where
    go :
        (x : Standing) → e.standing ≡ x
        → total (λ (m : Marked). if m.0 then 1 else 0) (map mark_of rest) + count_left rest ≡ total (λ (s : Spot). if s.is_due then 1 else 0) (map spot rest)
        → total (λ (m : Marked). if m.0 then 1 else 0) (map mark_of (e ∷ rest)) + count_left (e ∷ rest)
        ≡ total (λ (s : Spot). if s.is_due then 1 else 0) (map spot (e ∷ rest))
    go not_due k ih = rw k (omega (arith, ih))
    go taken k ih = rw k (omega (arith, ih))
    go (left lacked) k ih = rw k (omega (arith, ih))

module _ (b : Ledger) (due : ℕ) where
  abbrev n : ℕ
  n = length b.waiting

  -- a pass keeps the places, so what is left is as many where the marks are the same
  same_left : (es : List Entry) → map mark_of (one_pass b.holdings es) ≡ map mark_of es → count_left (one_pass b.holdings es) ≡ count_left es
  same_left es e =
      omega (
        arith,
        in_left es,
        in_left (one_pass b.holdings es),
        ap (total (λ (m : Marked). if m.0 then 1 else 0)) e,
        ap (total (λ (s : Spot). if s.is_due then 1 else 0)) (passed b.holdings (trades_in es) es).spots,
      )

  -- the same marks on the items are the same marks
  module _ (marks more : ℕ) (small : marks < 2 ^ 64) (smaller : more < 2 ^ 64) (s : Started b due marks) (t : Started b due more) where
    outside : (m k : ℕ) → Started b due m → n ≤ k → k < 64 → is_on m k ≡ false
    outside m k u a l = go (is_on m k) refl
      where
        go : (x : Bool) → is_on m k ≡ x → is_on m k ≡ false
        go true e = absurd (false≢true (sym (u.behind k a l) ∙ u.within k l e))
        go false e = e

    same_word : ((k : ℕ) → k < n → is_on more k ≡ is_on marks k) → more ≡ marks
    same_word e = on_same more marks smaller small (λ k l. go k l (ltb k n) refl)
      where
        go : (k : ℕ) → k < 64 → (x : Bool) → ltb k n ≡ x → is_on more k ≡ is_on marks k
        go k l true p = e k (ltb-true k n p)
        go k l false p = outside more k t (ltb-false k n p) l ∙ sym (outside marks k s (ltb-false k n p) l)

    same_marks : marked_of more b.waiting ≡ marked_of marks b.waiting → more ≡ marks
    unfolding marked_of
    same_marks e =
        same_word
        (λ k l.
        let at : (m : ℕ) → get_or (marked_of m b.waiting) k (false, no_item) ≡ (is_on m (0 + k), item_in b.waiting (0 + k)) =
        λ m. from_get (λ i. (is_on m i, item_in b.waiting i)) 0 n k (false, no_item) l
        in
        let z : 0 + k ≡ k = omega arith in
        ap (is_on more) (sym z) ∙ ap (λ (x : Marked). x.0) (sym (at more) ∙ ap (λ (ms : List Marked). get_or ms k (false, no_item)) e ∙ at marks)
        ∙ ap (is_on marks) z)

    -- a pass that changes the marks gives some back
    pub more-on : (more ≡ marks → ⊥) → ((k : ℕ) → k < n → is_on marks k ≡ true → is_on more k ≡ true) → count_on (is_on marks) n < count_on (is_on more) n
    more-on d kept = go (ltb (count_on (is_on marks) n) (count_on (is_on more) n)) refl
      where
        go : (x : Bool) → ltb (count_on (is_on marks) n) (count_on (is_on more) n) ≡ x → count_on (is_on marks) n < count_on (is_on more) n
        go true e = ltb-true _ _ e
        go false e = absurd (d (same_word (count_same (is_on marks) (is_on more) n kept (ltb-false _ _ e))))

  -- ---- the passes that are made, and those that are still to be made

  pub record Run (es : List Entry) (marks : ℕ) : Type 0 where
    pub now : List Entry
    pub stands : Stands b due marks now
    pub left : ℕ
    pub enough : count_left now ≤ left
    pub same : passes left b.holdings now ≡ passes (length es) b.holdings es

  pub starts : (es : List Entry) (kept : ℕ) → Stands b due kept es → Run es kept
  starts es kept s = record { now = es; stands = s; left = length es; enough = left-most es; same = refl }

  module _ (es : List Entry) (marks more : ℕ) (w : Run es marks) (p : Passed b due marks more) where
    abbrev next : List Entry
    next = one_pass b.holdings w.now

    next_stands : Stands b due more next
    next_stands =
        let spots = (passed b.holdings (trades_in w.now) w.now).spots in
        record {
          all = w.stands.all ∙ due-spots b w.now ∙ ap (map (λ (s : Spot). (s.is_due, s.item))) (sym spots) ∙ sym (due-spots b next);
          marked = p.passed w.now w.stands;
          alone = at_alone next (subst AloneAt (sym spots) (alone_at w.now w.stands.alone));
        }

    -- the last pass: it gave none back
    pub ends : more ≡ marks → marked_of marks b.waiting ≡ map mark_of (passes (length es) b.holdings es)
    unfolding passes
    ends e =
        let same : map mark_of next ≡ map mark_of w.now =
        sym (p.passed w.now w.stands) ∙ ap (λ (m : ℕ). marked_of m b.waiting) e ∙ w.stands.marked
        in
        w.stands.marked ∙ ap (map mark_of) (sym (stop w.left (same_left w.now same)) ∙ w.same)
      where
        stop : (m : ℕ) → count_left next ≡ count_left w.now → passes m b.holdings w.now ≡ w.now
        stop zero c = refl
        stop (suc m) c = rw (eq-eqb (count_left next) (count_left w.now) c)

    -- one that gave some back
    pub again : marks < 2 ^ 64 → more < 2 ^ 64 → Started b due marks → (more ≡ marks → ⊥) → Run es more
    unfolding passes
    again small smaller s d =
        let r = passed b.holdings (trades_in w.now) w.now in
        let other : count_left next ≡ count_left w.now → ⊥ =
        λ c.
        d
        (same_marks marks more small smaller s p.started
        (p.passed w.now w.stands ∙ ap (map mark_of) (r.none c).1 ∙ sym w.stands.marked))
        in
        let fewer : count_left next < count_left w.now = omega (arith, r.fewer, other) in
        let one : suc (w.left - 1) ≡ w.left = omega (arith, w.enough, fewer) in
        record {
          now = next;
          stands = next_stands;
          left = w.left - 1;
          enough = omega (arith, w.enough, fewer);
          same = sym (step (w.left - 1) other) ∙ ap (λ (m : ℕ). passes m b.holdings w.now) one ∙ w.same;
        }
      where
        step : (m : ℕ) → (count_left next ≡ count_left w.now → ⊥) → passes (suc m) b.holdings w.now ≡ passes m b.holdings next
        step m o = rw (ne_eqb (count_left next) (count_left w.now) o)
