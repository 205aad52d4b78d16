-- The waiting list once a single has arrived, by the place of the one that it pairs with, and forms 12 and 13 by that place. Assumes nothing.
use Prim.Native.Nat.{ℕ, suc, ◌+◌, ◌<◌}
use native.Mathlib.Omega.{arith}
use mathlib.Core.Bool.{Bool, true, false}
use mathlib.Core.List.{List, [], ◌∷◌, ◌++◌}
use mathlib.Core.Path.{◌≡◌, refl, sym, ap, subst, ◌∙◌}
use borrow.Author.Tests.{ltb-false}
use lib.ListN.{length, get_or, length-append, length-drop}
use lib.Seq.{length-take-le}
use Rattle.plain.proofs.Tests.{neither}
use Rattle.plain.specs.Lists.{◌below◌, ◌one_of◌, some}
use Rattle.rulebook.specs.Ledger.{Ledger, put_waiting}
use Rattle.rulebook.specs.Waiting.{single_of}
use Rattle.rulebook.specs.Matching.{tolerance, pairs_with, arrive}
use Rattle.rulebook.specs.Forms.{counts, instruct}
use Rattle.rulebook.specs.declared.Counts.{Counts}
use Rattle.rulebook.specs.declared.Item.{Item}
use Rattle.rulebook.specs.declared.Order.{Order}
use Rattle.rulebook.proofs.Space.{instruct-space}
use Rattle.std.specs.Prelude.{is_some, Option, Some, None}
use Rattle.words.specs.Places.{remove_at}
use Rattle.book.specs.Meaning.{ledger_of}
use Rattle.book.specs.Stored.{Means}
use Rattle.book.specs.Handled.{Handled}
use Rattle.book.proofs.Parts.{next}
use Rattle.book.proofs.Handled.{silent-handled, means_so}
use Rattle.search.specs.Place.{place_from, place_in}
use Rattle.search.proofs.Found.{found_some}
use Rattle.checking.specs.Given.{Given}
use Rattle.checking.proofs.Passed.{known}
use Rattle.instructions.specs.Paired.{paired}

module _ (limit : ℕ) (new : Item) (d : Item) where
  -- what arrives pairs with the one at place i
  abbrev PairsAt : List Item → ℕ → Type 0
  PairsAt ws i = arrive limit new ws ≡ remove_at i ws ++ (paired new (get_or ws i d) ∷ [])

  pairs_from : (ws : List Item) (k j : ℕ) → place_from (pairs_with limit new) k ws ≡ Some j → (i : ℕ) × ((j ≡ k + i) × PairsAt ws i)
  unfolding arrive place_from paired
  pairs_from [] k j e = let z : ◌≡◌ {A = ℕ} 0 1 = cc in absurd (omega arith)
  pairs_from (w ∷ rest) k j e = go (pairs_with limit new w) refl (pairs_from rest (suc k) j)
    where
      go :
          (t : Bool) → pairs_with limit new w ≡ t → (place_from (pairs_with limit new) (suc k) rest ≡ Some j → (i : ℕ) × ((j ≡ suc k + i) × PairsAt rest i))
          → (i : ℕ) × ((j ≡ k + i) × PairsAt (w ∷ rest) i)
      go true p later =
          let f : Some k ≡ Some j = rw p at e in
          let s : k ≡ j = cc in
          (0, (omega (arith, s), rw p))
      go false p later =
          let f = later (rw p at e) in
          (suc f.0, (omega (arith, f.1.0), rw p (ap (λ (l : List Item). w ∷ l) f.1.1)))

  -- that one is removed and the pair goes last
  pub arrive-pair : (ws : List Item) (i : ℕ) → place_in (pairs_with limit new) ws ≡ Some i → PairsAt ws i
  arrive-pair ws i e =
      let f = pairs_from ws 0 i e in
      let s : f.0 ≡ i = omega (arith, f.1.0) in
      subst (PairsAt ws) s f.1.1

  -- where none pairs, the single goes last
  pub arrive-alone : (ws : List Item) → some (pairs_with limit new) ws ≡ false → arrive limit new ws ≡ ws ++ (new ∷ [])
  unfolding arrive
  arrive-alone [] e = refl
  arrive-alone (w ∷ rest) e = go (pairs_with limit new w) refl (arrive-alone rest)
    where
      go :
          (b : Bool) → pairs_with limit new w ≡ b → (some (pairs_with limit new) rest ≡ false → arrive limit new rest ≡ rest ++ (new ∷ []))
          → arrive limit new (w ∷ rest) ≡ (w ∷ rest) ++ (new ∷ [])
      go true t later =
          let f : true ≡ false = rw t at e in
          let z : ◌≡◌ {A = ℕ} 0 1 = cc in
          absurd (omega arith)
      go false t later = rw t (ap (λ (l : List Item). w ∷ l) (later (rw t at e)))

-- ---- forms 12 and 13 by the place that the search answers

-- one item less
removed-length : (ws : List Item) (i : ℕ) → i < length ws → length (remove_at i ws) < length ws
removed-length ws i l = simp (length-append, length-take-le i ws (omega arith), length-drop) (omega arith)

module _ (book : List ℕ) (order : Order) where
  abbrev b : Ledger
  b = ledger_of book

  abbrev pub limit : ℕ
  limit = tolerance b.rate order.currency

  abbrev pub arriving : Item
  arriving = single_of order

  -- the place found
  abbrev pub place : Option ℕ
  place = place_in (pairs_with limit arriving) b.waiting

  -- once the earlier single is removed there is room for the pair
  pub pair-room :
      (i : ℕ) → Given book order → i < length b.waiting → (mid : List ℕ) → Means mid (put_waiting (remove_at i b.waiting) b)
      → length (ledger_of mid).waiting < 64
  pair-room i given l mid m =
      let e : length (ledger_of mid).waiting ≡ length (remove_at i b.waiting) = unfold put_waiting in ap (λ (x : Ledger). length x.waiting) m.ledger in
      omega (arith, e, removed-length b.waiting i l, given.kept.premise.sizes.items)

  pub pair_made :
      (i : ℕ) (waits new pair : Item) (mid after : List ℕ) (r : Counts) → place ≡ Some i → ((d : Item) → waits ≡ get_or b.waiting i d) → new ≡ arriving
      → pair ≡ paired new waits → Means mid (put_waiting (remove_at i b.waiting) b)
      → Means after (put_waiting ((ledger_of mid).waiting ++ (pair ∷ [])) (ledger_of mid)) → r ≡ counts 0 0 0 0 0 0
      → (area : List ℕ) → Handled (instruct b order) after area area r
  unfolding instruct put_waiting
  pair_made i waits new pair mid after r e w n p m a c =
      let q : pair ≡ paired arriving (get_or b.waiting i waits) = p ∙ ap (λ (x : Item). paired x waits) n ∙ ap (paired arriving) (w waits) in
      silent-handled _ after r
      (means_so after _ _ (next (λ x. put_waiting (x.waiting ++ (pair ∷ [])) x) m a)
      (ap (λ (x : Item). put_waiting (remove_at i b.waiting ++ (x ∷ [])) b) q
      ∙ ap (λ (l : List Item). put_waiting l b) (sym (arrive-pair limit arriving waits b.waiting i e))))
      c

  module _ (given : Given book order) (e : place ≡ None) where
    none : some (pairs_with limit arriving) b.waiting ≡ false
    none = sym (found_some (pairs_with limit arriving) 0 b.waiting) ∙ ap is_some e

    -- refusal 18 does not apply
    pub alone-room : (order.form one_of (12 ∷ 13 ∷ [])) ≡ true → length b.waiting < 64
    alone-room t =
        let items : ℕ = length b.waiting in
        let space = sym (instruct-space b order (given.kept.premise.sizes) t) ∙ (known given).space in
        omega (arith, ltb-false 63 items (neither (63 below items) _ (simp none at space)).0)

    pub alone-made :
        (new : Item) (after : List ℕ) (r : Counts) → new ≡ arriving → Means after (put_waiting (b.waiting ++ (new ∷ [])) b) → r ≡ counts 0 0 0 0 0 0
        → (area : List ℕ) → Handled (instruct b order) after area area r
    unfolding instruct
    alone-made new after r n a c =
        silent-handled _ after r
        (means_so after _ _ a
        (ap (λ (x : Item). put_waiting (b.waiting ++ (x ∷ [])) b) n
        ∙ ap (λ (l : List Item). put_waiting l b) (sym (arrive-alone limit arriving arriving b.waiting none))))
        c
