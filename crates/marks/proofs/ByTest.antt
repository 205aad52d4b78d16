-- The waiting list with marks on the items that pass a test, and marks that a loop sets one by one. Assumes nothing.
use Rattle.std.specs.Prelude.{if◌then◌else◌}
use Prim.Native.Nat.{ℕ, ◌+◌, ◌≤◌, ◌<◌}
use native.Mathlib.Omega.{arith}
use mathlib.Core.Bool.{Bool, true, false, not}
use mathlib.Core.List.{List, map}
use mathlib.Core.Logic.{◌≢◌}
use mathlib.Core.Path.{◌≡◌, refl, sym, ap, subst, ◌∙◌}
use lib.ListN.{length}
use borrow.Author.Count.{below_more}
use borrow.Author.Tests.{eq-eqb, ne_eqb}
use Rattle.plain.specs.Lists.{◌is◌}
use Rattle.rulebook.specs.declared.Item.{Item}
use Rattle.words.proofs.Places.{from_map}
use Rattle.marks.specs.Marks.{item_in, is_on, marked_of}
use Rattle.marks.proofs.Marking.{listed, marking-same}

module _ (test : Item → Bool) (waiting : List Item) where
  -- a mark for each item that passes
  pub by_test_lem :
      (marks : ℕ) → ((k : ℕ) → k < length waiting → is_on marks k ≡ test (item_in waiting k)) → marked_of marks waiting ≡ map (λ item. (test item, item)) waiting
  unfolding marked_of
  by_test_lem marks e =
      marking-same (item_in waiting) (length waiting) (is_on marks) (λ k. test (item_in waiting k)) e
      ∙ sym (from_map (λ item. (test item, item)) (item_in waiting) 0 (length waiting))
      ∙ ap (map (λ (item : Item). (test item, item))) (listed waiting)

-- marks of which the first i are what each asks of its place, and the others are not set
module _ (Asked : ℕ → Bool → Type 0) where
  abbrev pub AskedBelow : (marks i : ℕ) → Type 0
  AskedBelow marks i = ((k : ℕ) → k < i → Asked k (is_on marks k)) × ((k : ℕ) → i ≤ k → k < 64 → is_on marks k ≡ false)

  module _ (marks i : ℕ) (low : i < 64) (d : AskedBelow marks i) where
    pub asked-not : Asked i false → AskedBelow marks (i + 1)
    asked-not a = (below_more _ _ d.0 (subst (Asked i) (sym (d.1 i (omega arith) low)) a), λ k h l. d.1 k (omega arith) l)

    pub asked-one :
        (now : ℕ) → ((k : ℕ) → k < 64 → is_on now k ≡ (if k is i then not (is_on marks i) else is_on marks k)) → Asked i true → AskedBelow now (i + 1)
    asked-one now f a = (
      below_more _ _ (λ k h. subst (Asked k) (sym (other k (omega arith) (omega arith))) (d.0 k h))
          (subst (Asked i) (sym (f i low ∙ rw (eq-eqb i i refl, d.1 i (omega arith) low))) a),
      λ k h l. other k l (omega arith) ∙ d.1 k (omega arith) l,
    )
      where
        other : (k : ℕ) → k < 64 → k ≢ i → is_on now k ≡ is_on marks k
        other k l ne = f k l ∙ rw (ne_eqb k i ne)
