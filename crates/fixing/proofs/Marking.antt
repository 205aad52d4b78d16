-- Marks that a loop puts onto the items of a book's waiting list. Assumes nothing.
use Prim.Native.Nat.{ℕ, ◌+◌, ◌≤◌, ◌<◌}
use native.Mathlib.Omega.{arith}
use mathlib.Core.Bool.{Bool}
use mathlib.Core.List.{List}
use mathlib.Core.Path.{◌≡◌, refl, sym, ap, subst, ◌∙◌}
use lib.ListN.{length, get_or, set, length-set}
use lib.Seq.{get_or-set_same, get_or-set_other}
use borrow.Author.Count.{below_more}
use Rattle.rulebook.specs.Ledger.{Ledger, put_waiting}
use Rattle.rulebook.specs.Waiting.{with_sent}
use Rattle.rulebook.specs.declared.Item.{Item}
use Rattle.words.specs.Places.{list_from}
use Rattle.words.proofs.Places.{from_same, from_map}
use Rattle.book.specs.Meaning.{ledger_of}
use Rattle.book.specs.Stored.{Stored, Means}
use Rattle.book.proofs.Parts.{next}
use Rattle.marks.specs.Marks.{Marked, no_item, item_in, is_on, marked_of}
use Rattle.marks.proofs.Marking.{listed}
use Rattle.fixing.specs.Borne.{bearing}

module _ (b : Ledger) (marks : ℕ) where
  -- the item at k with its mark
  abbrev put : ℕ → Item
  put k = with_sent (is_on marks k) (item_in b.waiting k)

  -- a waiting list whose first i items have their marks, and which from i on is as it was
  pub record Put (now : List Item) (i : ℕ) : Type 0 where
    pub long : length now ≡ length b.waiting
    pub first : (k : ℕ) → k < i → item_in now k ≡ put k
    pub rest : (k : ℕ) → i ≤ k → item_in now k ≡ item_in b.waiting k

  -- and a book with it
  pub record Fixing (book : List ℕ) (i : ℕ) : Type 0 where
    pub means : Means book (put_waiting (ledger_of book).waiting b)
    pub so_far : Put (ledger_of book).waiting i

  put_next : (now : List Item) (i : ℕ) → Put now i → i < length b.waiting → Put (set now i (with_sent (is_on marks i) (item_in now i))) (i + 1)
  put_next now i p l = record {
    long = length-set now i _ ∙ p.long;
    first =
        below_more _ _ (λ k h. get_or-set_other now i k _ no_item (λ e. omega (arith, e, h)) ∙ p.first k h)
        (get_or-set_same now i _ no_item (omega (arith, p.long)) ∙ ap (with_sent (is_on marks i)) (p.rest i (omega arith)));
    rest = λ k h. get_or-set_other now i k _ no_item (λ e. omega (arith, e, h)) ∙ p.rest k (omega arith);
  }

  put_all : (now : List Item) (i : ℕ) → Put now i → i ≡ length b.waiting → now ≡ bearing (marked_of marks b.waiting)
  unfolding bearing marked_of
  put_all now i p e =
      sym (listed now)
      ∙ ap (list_from (item_in now) 0) p.long
      ∙ from_same put (item_in now) 0 0 (length b.waiting) (λ k h. let z : 0 + k ≡ k = omega arith in rw z (p.first k (omega (arith, e))))
      ∙ sym (from_map (λ (m : Marked). with_sent m.0 m.1) (λ k. (is_on marks k, item_in b.waiting k)) 0 (length b.waiting))

  module _ (book : List ℕ) (i : ℕ) (f : Fixing book i) where
    pub fixing-next :
        i < length b.waiting → (on : Bool) → on ≡ is_on marks i → (after : List ℕ)
        → Means after (put_waiting (set (ledger_of book).waiting i (with_sent on (get_or (ledger_of book).waiting i no_item))) (ledger_of book))
        → Fixing after (i + 1)
    unfolding put_waiting
    fixing-next l on e after m =
        let k = next (put_waiting (set (ledger_of book).waiting i (with_sent on (item_in (ledger_of book).waiting i)))) f.means (unfold put_waiting in m) in
        let w : (ledger_of after).waiting ≡ set (ledger_of book).waiting i (with_sent on (item_in (ledger_of book).waiting i)) =
        ap (λ (x : Ledger). x.waiting) k.ledger in
        let v : (ledger_of after).waiting ≡ set (ledger_of book).waiting i (with_sent (is_on marks i) (item_in (ledger_of book).waiting i)) =
        w ∙ ap (λ (x : Bool). set (ledger_of book).waiting i (with_sent x (item_in (ledger_of book).waiting i))) e in
        record {
          means = subst (λ (x : List Item). Means after (put_waiting x b)) (sym w) (unfold put_waiting in k);
          so_far = subst (λ (x : List Item). Put x (i + 1)) (sym v) (put_next (ledger_of book).waiting i f.so_far l);
        }

    pub fixing-done : i ≡ length b.waiting → Means book (put_waiting (bearing (marked_of marks b.waiting)) b)
    fixing-done e = subst (λ (x : List Item). Means book (put_waiting x b)) (put_all (ledger_of book).waiting i f.so_far e) f.means

pub fixing-none : (marks : ℕ) (book : List ℕ) → Stored book → Fixing (ledger_of book) marks book 0
unfolding put_waiting
fixing-none marks book s = record {
  means = record { stored = s; ledger = refl };
  so_far = record { long = refl; first = λ k h. absurd (omega arith); rest = λ k h. refl };
}
