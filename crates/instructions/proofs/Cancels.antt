-- Form 15 by the place of the item that waits under the sender's reference. Assumes nothing.
use Rattle.std.specs.Prelude.{if◌then◌else◌, is_some, Option, Some, None}
use Prim.Native.Nat.{ℕ, ◌*◌}
use native.Mathlib.Omega.{arith}
use mathlib.Core.Bool.{Bool, true, false, not, false≢true}
use mathlib.Core.List.{List, [], ◌∷◌, ◌++◌, map}
use mathlib.Core.Path.{◌≡◌, refl, sym, ap, subst, ◌∙◌}
use lib.ListN.{length, get_or, set, drop}
use Rattle.plain.specs.Lists.{◌is◌}
use Rattle.rulebook.specs.Ledger.{Ledger, put_waiting}
use Rattle.rulebook.specs.Premise.{today}
use Rattle.rulebook.specs.Waiting.{sides_of, sides, sender_of, sent_by, with_state, marked, both_marked, marking, cancelled, staying}
use Rattle.rulebook.specs.Rows.{Row, notice, notice_of, deliver_reference, receive_reference, rows_bytes}
use Rattle.rulebook.specs.Refusals.{wrong_reference}
use Rattle.rulebook.specs.Forms.{counts, outcome, cancel}
use Rattle.rulebook.specs.declared.Counts.{Counts}
use Rattle.rulebook.specs.declared.Item.{Item}
use Rattle.rulebook.specs.declared.Order.{Order}
use Rattle.rulebook.specs.declared.State.{State}
use Rattle.rulebook.specs.declared.State.TheVariants.{Single, Pair, Trade}
use Rattle.rulebook.proofs.ByIndex.{item-at, cancel-at}
use Rattle.rows.specs.Widths.{NoticeFits}
use Rattle.rows.proofs.Notices.{notice-fits}
use Rattle.words.specs.Places.{remove_at}
use Rattle.book.specs.Meaning.{ledger_of}
use Rattle.book.specs.Stored.{Means}
use Rattle.book.specs.Handled.{Handled}
use Rattle.search.specs.Place.{place_in}
use Rattle.search.proofs.Found.{Passes, found-passes, found_some}
use Rattle.checking.specs.Given.{Accepted}
use Rattle.checking.proofs.Passed.{known}

-- ---- a mark leaves a notice as it is

marked-state : (sender kind : ℕ) (item : Item) (x : State) → notice_of kind (marked sender (with_state x item)) ≡ notice_of kind (with_state x item)
unfolding notice_of marked with_state deliver_reference receive_reference
marked-state sender kind item (Single delivers reference) = refl
marked-state sender kind item (Pair d r dm rm) = go (sender is item.debited.member)
  where
    go : (b : Bool) → notice_of kind (with_state (if b then Pair d r true rm else Pair d r dm true) item) ≡ notice_of kind (with_state (Pair d r dm rm) item)
    go true = refl
    go false = refl
marked-state sender kind item (Trade reference) = refl

pub marked-notice : (sender kind : ℕ) (item : Item) → notice_of kind (marked sender item) ≡ notice_of kind item
unfolding with_state
marked-notice sender kind item = marked-state sender kind item item.state

-- ---- the item that waits under the sender's reference

-- a cancelled pair has one notice and counts two sides
pub one_notice :
    (n : Counts) → n ≡ counts 0 0 0 0 0 0
    → ◌≡◌ {A = Counts} (record { rows = 1; settled = n.settled; cancelled = 2; deleted = n.deleted; suspended = n.suspended; left = n.left })
    (counts 1 0 2 0 0 0)
unfolding counts
one_notice n e = rw e

-- only a pair has two marks
both_sides : (x : State) → both_marked x ≡ true → sides_of x ≡ 2
unfolding both_marked sides_of
both_sides (Single delivers reference) e = absurd (false≢true e)
both_sides (Pair d r dm rm) e = refl
both_sides (Trade reference) e = absurd (false≢true e)

module _ (book : List ℕ) (order : Order) (area : List ℕ) (a : Accepted book order area) where
  abbrev b : Ledger
  b = ledger_of book

  abbrev sender : ℕ
  sender = sender_of order

  -- the place found
  abbrev pub place : Option ℕ
  place = place_in (sent_by sender order.reference) b.waiting

  -- refusal 14 does not apply
  pub waits : order.form ≡ 15 → place ≡ None → ⊥
  unfolding wrong_reference
  waits form e =
      let r = (known a.given).reference in
      false≢true (sym (simp form at r) ∙ ap not (sym (found_some (sent_by sender order.reference) 0 b.waiting) ∙ ap is_some e))

  module _ (i : ℕ) (e : place ≡ Some i) (item m : Item) (read : (d : Item) → item ≡ get_or b.waiting i d) (mark : m ≡ marked sender item) where
    there : Passes (sent_by sender order.reference) b.waiting i
    there = found-passes (sent_by sender order.reference) b.waiting i e

    pub cancelled-fits : NoticeFits (notice_of 4 m)
    cancelled-fits =
        subst NoticeFits (sym (ap (notice_of 4) mark ∙ marked-notice sender 4 item ∙ ap (notice_of 4) (read item)))
        (notice-fits b.day.number (today b.day) b.holdings _ 4 (omega arith) (item-at b (a.given.kept.premise) i item there.inside))

    -- the item marked is the one at that place
    marked-there : marked sender (get_or b.waiting i item) ≡ m
    marked-there = sym (mark ∙ ap (marked sender) (read item))

    abbrev now : List Item
    now = marking sender order.reference b.waiting

    -- its second half is marked
    module _ (t : both_marked m.state ≡ true) where
      left : staying now ≡ remove_at i b.waiting
      left = simp t at (rw marked-there at (cancel-at b (a.given.kept.premise) sender order.reference i item there.inside (there.passes item)).0)

      gone : cancelled now ≡ m ∷ []
      gone = simp t at (rw marked-there at (cancel-at b (a.given.kept.premise) sender order.reference i item there.inside (there.passes item)).1)

      pub pair-leaves :
          (after written : List ℕ) (r : Counts) → Means after (put_waiting (remove_at i b.waiting) b)
          → written ≡ rows_bytes (notice (notice_of 4 m) ∷ []) ++ drop 16 area → r ≡ counts 1 0 2 0 0 0 → Handled (cancel b order) after area written r
      unfolding cancel outcome sides
      pair-leaves after written r n w c =
          let f : Item → Row = λ x. notice (notice_of 4 x) in
          let two : sides_of m.state ≡ 2 = both_sides m.state t in
          record {
            stored = n.stored;
            ledger = n.ledger ∙ ap (λ (l : List Item). put_waiting l b) (sym left);
            counted =
                c ∙ ap (λ (k : ℕ). counts 1 0 k 0 0 0) (sym (omega (arith, two)))
                ∙ ap (λ (l : List Item). counts (length (map f l)) 0 (sides l) 0 0 0) (sym gone);
            written = w ∙ ap (λ (l : List Item). rows_bytes (map f l) ++ drop (16 * length (map f l)) area) (sym gone);
          }

    -- only one half is marked
    module _ (t : both_marked m.state ≡ false) where
      stays : staying now ≡ set b.waiting i m
      stays = simp t at (rw marked-there at (cancel-at b (a.given.kept.premise) sender order.reference i item there.inside (there.passes item)).0)

      none_gone : cancelled now ≡ []
      none_gone = simp t at (rw marked-there at (cancel-at b (a.given.kept.premise) sender order.reference i item there.inside (there.passes item)).1)

      pub pair-stays :
          (after : List ℕ) (r : Counts) → Means after (put_waiting (set b.waiting i m) b) → r ≡ counts 0 0 0 0 0 0
          → Handled (cancel b order) after area area r
      unfolding cancel outcome sides rows_bytes
      pair-stays after r n c =
          let f : Item → Row = λ x. notice (notice_of 4 x) in
          record {
            stored = n.stored;
            ledger = n.ledger ∙ ap (λ (l : List Item). put_waiting l b) (sym stays);
            counted = c ∙ ap (λ (l : List Item). counts (length (map f l)) 0 (sides l) 0 0 0) (sym none_gone);
            written = ap (λ (l : List Item). rows_bytes (map f l) ++ drop (16 * length (map f l)) area) (sym none_gone);
          }
