-- The items without a mark, which a loop puts one behind the other. Assumes nothing.
use Prim.Native.Nat.{ℕ, ◌+◌, ◌≤◌, ◌<◌}
use native.Mathlib.Numerals.{add-one}
use native.Mathlib.Omega.{arith}
use mathlib.Core.Bool.{Bool, true, false, not}
use mathlib.Core.List.{List, [], ◌∷◌, ◌++◌, append-nil}
use mathlib.Core.Path.{◌≡◌, refl, sym, ap, subst, ◌∙◌}
use lib.ListN.{length, set, take, length-set}
use lib.Seq.{take-suc-set, get_or-set_other}
use Rattle.rulebook.specs.Ledger.{Ledger, put_waiting}
use Rattle.rulebook.specs.declared.Item.{Item}
use Rattle.words.specs.Places.{list_from}
use Rattle.book.specs.Meaning.{ledger_of}
use Rattle.book.specs.Stored.{Stored, Means}
use Rattle.book.proofs.Parts.{next}
use Rattle.marks.specs.Marks.{without_mark, no_item, item_in, is_on, marked_of}
use Rattle.marks.proofs.Marking.{marking}
use Rattle.settlement.proofs.Posting.{if_marked, without_next}

module _ (b : Ledger) (marks : ℕ) where
  abbrev item : ℕ → Item
  item k = item_in b.waiting k

  abbrev on : ℕ → Bool
  on k = is_on marks k

  -- a waiting list whose first j items are those of the first i without a mark, and which from i on is as it was
  pub record Packed (now : List Item) (j i : ℕ) : Type 0 where
    pub long : length now ≡ length b.waiting
    pub behind : j ≤ i
    pub rest : (k : ℕ) → i ≤ k → item_in now k ≡ item k
    pub made : take j now ≡ without_mark (marking on item i)

  -- and a book with it
  pub record Staying (book : List ℕ) (j i : ℕ) : Type 0 where
    pub means : Means book (put_waiting (ledger_of book).waiting b)
    pub packed : Packed (ledger_of book).waiting j i

  packed_off : (now : List Item) (j i : ℕ) → Packed now j i → on i ≡ true → Packed now j (i + 1)
  packed_off now j i p e = record {
    long = p.long;
    behind = omega (arith, p.behind);
    rest = λ k l. p.rest k (omega arith);
    made =
        p.made
        ∙ sym
        (without_next item on i
        ∙ ap (λ (x : Bool). without_mark (marking on item i) ++ if_marked (not x) (item i)) e
        ∙ append-nil (without_mark (marking on item i)));
  }

  packed_on :
      (now : List Item) (j i : ℕ) → Packed now j i → i < length b.waiting → on i ≡ false → (t : Item) → t ≡ item_in now i → Packed (set now j t) (j + 1) (i + 1)
  packed_on now j i p l e t same = record {
    long = length-set now j t ∙ p.long;
    behind = omega (arith, p.behind);
    rest = λ k h. get_or-set_other now j k t no_item (λ s. omega (arith, s, p.behind)) ∙ p.rest k (omega arith);
    made =
        ap (λ (m : ℕ). take m (set now j t)) (add-one j)
        ∙ take-suc-set now j t (omega (arith, p.behind, p.long))
        ∙ ap (λ (x : List Item). x ++ (t ∷ [])) p.made
        ∙ ap (λ (x : Item). without_mark (marking on item i) ++ (x ∷ [])) (same ∙ p.rest i (omega arith))
        ∙ sym (without_next item on i ∙ ap (λ (x : Bool). without_mark (marking on item i) ++ if_marked (not x) (item i)) e);
  }

  module _ (book : List ℕ) (j i : ℕ) (s : Staying book j i) where
    -- the book with another waiting list
    other_list : (after : List ℕ) (w : List Item) → Means after (put_waiting w (ledger_of book)) → Means after (put_waiting w b)
    unfolding put_waiting
    other_list after w m = next (put_waiting w) s.means m

    list_now : (after : List ℕ) (w : List Item) → Means after (put_waiting w b) → (ledger_of after).waiting ≡ w
    unfolding put_waiting
    list_now after w m = ap (λ (x : Ledger). x.waiting) m.ledger

    pub staying-off : on i ≡ true → Staying book j (i + 1)
    staying-off e = record { means = s.means; packed = packed_off _ j i s.packed e }

    pub staying-on :
        on i ≡ false → i < length b.waiting → (t : Item) → t ≡ item_in (ledger_of book).waiting i → (after : List ℕ)
        → Means after (put_waiting (set (ledger_of book).waiting j t) (ledger_of book)) → Staying after (j + 1) (i + 1)
    staying-on e l t same after m =
        let k = other_list after _ m in
        let f = list_now after _ k in
        record {
          means = subst (λ (w : List Item). Means after (put_waiting w b)) (sym f) k;
          packed = subst (λ (w : List Item). Packed w (j + 1) (i + 1)) (sym f) (packed_on _ j i s.packed l e t same);
        }

    pub staying-done :
        i ≡ length b.waiting → (after : List ℕ) → Means after (put_waiting (take j (ledger_of book).waiting) (ledger_of book))
        → Means after (put_waiting (without_mark (marked_of marks b.waiting)) b)
    unfolding marked_of
    staying-done e after m =
        subst (λ (w : List Item). Means after (put_waiting w b)) (s.packed.made ∙ ap (λ (k : ℕ). without_mark (marking on item k)) e) (other_list after _ m)

pub staying-none : (marks : ℕ) (book : List ℕ) → Stored book → Staying (ledger_of book) marks book 0 0
unfolding put_waiting without_mark list_from
staying-none marks book s = record {
  means = record { stored = s; ledger = refl };
  packed = record { long = refl; behind = omega arith; rest = λ k l. refl; made = refl };
}
