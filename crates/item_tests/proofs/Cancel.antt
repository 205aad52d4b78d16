-- The item that a cancel names is the only one that waits under its sender's reference. Assumes nothing.
use Prim.Native.Nat.{ℕ, zero, suc, ◌<◌}
use mathlib.Core.Path.{◌≡◌, refl, sym, ap, subst, ◌∙◌}
use mathlib.Core.Bool.{Bool, true, false, ◌&&◌, ◌||◌, false≢true, or-true}
use mathlib.Core.List.{List, [], ◌∷◌}
use native.Mathlib.Omega.{arith}
use borrow.Author.Tests.{eq-eqb}
use lib.ListN.{length, get_or}
use Rattle.plain.specs.Lists.{some}
use Rattle.plain.proofs.Tests.{both}
use Rattle.rulebook.specs.Ledger.{Ledger}
use Rattle.rulebook.specs.Premise.{Premise}
use Rattle.rulebook.specs.Waiting.{sender_of, sent_by, not_cancellable}
use Rattle.rulebook.specs.Refusals.{wrong_cancel, cancels_sent}
use Rattle.rulebook.specs.declared.Order.{Order}
use Rattle.rulebook.specs.declared.Item.{Item}
use Rattle.rulebook.proofs.ByIndex.{reference-once}
use Rattle.std.specs.Prelude.{is_some, Option, Some, None}
use Rattle.search.specs.Place.{place_in}
use Rattle.search.proofs.Found.{Passes, found_some, found-passes}

-- where none passes one test, none passes it together with another
pub none_both : {A : Type 0} (one other : A → Bool) (l : List A) → some one l ≡ false → some (λ x. one x && other x) l ≡ false
none_both one other [] e = refl
none_both one other (x ∷ rest) e = go (one x) e (none_both one other rest)
  where
    go :
        (t : Bool) → (t || some one rest) ≡ false → (some one rest ≡ false → some (λ y. one y && other y) rest ≡ false)
        → (t && other x || some (λ y. one y && other y) rest) ≡ false
    go true p later = absurd (false≢true (sym p))
    go false p later = later p

-- a list with an element that passes
pub some_at : {A : Type 0} (test : A → Bool) (l : List A) (i : ℕ) (d : A) → i < length l → test (get_or l i d) ≡ true → some test l ≡ true
some_at test [] i d h e = absurd (omega arith)
some_at test (x ∷ rest) zero d h e = rw e
some_at test (x ∷ rest) (suc i) d h e = rw (some_at test rest i d (omega arith) e) (or-true (test x))

module _
    (why : Item → Bool) (b : Ledger) (p : Premise b) (s r i : ℕ) (at : Passes (sent_by s r) b.waiting i) (x : Item) (here : x ≡ get_or b.waiting i x)
  where
    refused : Item → Bool
    refused item = sent_by s r item && why item

    -- whether it passes a further test is told by that item alone
    by_one : some (λ item. sent_by s r item && why item) b.waiting ≡ why x
    unfolding refused
    by_one = go (why x) refl (place_in refused b.waiting) refl
      where
        sent : sent_by s r x ≡ true
        sent = ap (sent_by s r) here ∙ at.passes x

        go : (t : Bool) → why x ≡ t → (f : Option ℕ) → place_in refused b.waiting ≡ f → some refused b.waiting ≡ t
        go true e f q = some_at refused b.waiting i x at.inside (ap refused (sym here) ∙ rw (sent, e))
        go false e None q = sym (found_some refused 0 b.waiting) ∙ ap is_some q
        go false e (Some j) q =
            let there = found-passes refused b.waiting j q in
            let passes = both (sent_by s r (get_or b.waiting j x)) (why (get_or b.waiting j x)) (there.passes x) in
            let same : i ≡ j = reference-once b p s r i j x at.inside there.inside (at.passes x) passes.0 in
            let y : why (get_or b.waiting i x) ≡ true = subst (λ (k : ℕ). why (get_or b.waiting k x) ≡ true) (sym same) passes.1 in
            absurd (false≢true (sym e ∙ ap why here ∙ y))

-- ---- tests 15 and 24, by what the search for the item finds

module _
    (b : Ledger) (o : Order) (s : ℕ) (f : Option ℕ) (form : o.form ≡ 15)
    (sender : s ≡ sender_of o) (found : f ≡ place_in (sent_by s o.reference) b.waiting)
  where
    none_under : (why : Item → Bool) → f ≡ None → some (λ item. sent_by s o.reference item && why item) b.waiting ≡ false
    none_under why e =
        none_both (sent_by s o.reference) why b.waiting (sym (found_some (sent_by s o.reference) 0 b.waiting) ∙ ap is_some (sym found ∙ e))

    pub cancel-nothing : f ≡ None → wrong_cancel b.waiting o ≡ false
    unfolding wrong_cancel
    cancel-nothing e = rw (eq-eqb o.form 15 form, ← sender) (none_under (not_cancellable s) e)

    pub sent-nothing : f ≡ None → cancels_sent b.waiting o ≡ false
    unfolding cancels_sent
    sent-nothing e = rw (eq-eqb o.form 15 form, ← sender) (none_under (λ item. item.sent) e)

    module _ (i : ℕ) (e : f ≡ Some i) where
      passes : Passes (sent_by s o.reference) b.waiting i
      passes = found-passes (sent_by s o.reference) b.waiting i (sym found ∙ e)

      pub cancel-inside : i < length b.waiting
      cancel-inside = passes.inside

      pub cancel-at : Premise b → (x : Item) → x ≡ get_or b.waiting i x → wrong_cancel b.waiting o ≡ not_cancellable s x
      unfolding wrong_cancel
      cancel-at p x here = rw (eq-eqb o.form 15 form, ← sender) (by_one (not_cancellable s) b p s o.reference i passes x here)

      pub sent-at : Premise b → (x : Item) → x ≡ get_or b.waiting i x → cancels_sent b.waiting o ≡ x.sent
      unfolding cancels_sent
      sent-at p x here = rw (eq-eqb o.form 15 form, ← sender) (by_one (λ item. item.sent) b p s o.reference i passes x here)
