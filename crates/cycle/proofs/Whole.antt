-- The whole cycle: what its parts leave is the rulebook's outcome. Assumes nothing.
use Rattle.std.specs.Prelude.{if◌then◌else◌}
use Prim.Native.Nat.{ℕ, ◌-◌, ◌^◌, ◌≤◌, ◌<◌}
use native.Mathlib.Omega.{arith}
use mathlib.Core.Bool.{Bool, true, false}
use mathlib.Core.List.{List, [], ◌∷◌, map}
use mathlib.Core.Path.{◌≡◌, refl, sym, ap, ap₂, ◌∙◌}
use lib.ListN.{length}
use Rattle.plain.specs.Lists.{◌is◌}
use Rattle.rulebook.specs.Ledger.{Ledger, put_day, put_waiting, cycle_sent}
use Rattle.rulebook.specs.Rows.{rows_bytes}
use Rattle.rulebook.specs.Waiting.{with_sent}
use Rattle.rulebook.specs.Selection.{Entry, is_sent, selection}
use Rattle.rulebook.specs.Cycle.{fixing, left_by}
use Rattle.rulebook.specs.Forms.{counts, outcome, cycle}
use Rattle.rulebook.specs.Premise.{Premise}
use Rattle.rulebook.specs.Windows.{cycle_minutes, by_kind}
use Rattle.rulebook.specs.declared.Counts.{Counts}
use Rattle.rulebook.specs.declared.Item.{Item}
use Rattle.rulebook.specs.declared.Order.{Order}
use Rattle.rulebook.proofs.Selection.Alone.{sent-alone}
use Rattle.rulebook.proofs.Selection.Fixing.{selection-alone}
use Rattle.book.specs.Meaning.{ledger_of}
use Rattle.book.specs.Stored.{Means}
use Rattle.book.specs.Handled.{Handled}
use Rattle.book.proofs.Parts.{next}
use Rattle.marks.specs.Marks.{is_on, marked_of, count_on}
use Rattle.netting.specs.Rounds.{mark_of}
use Rattle.netting.specs.Selected.{Selected}
use Rattle.netting.proofs.Entries.{counted}
use Rattle.fixing.specs.Borne.{bearing}

-- a day has at most three cycles
few : (kind : ℕ) → length (cycle_minutes kind) ≤ 3
unfolding cycle_minutes by_kind
few kind = go (kind is 1)
  where
    go : (t : Bool) → length {A = ℕ} (if t then 585 ∷ 705 ∷ 825 ∷ [] else 585 ∷ 705 ∷ []) ≤ 3
    go true = omega arith
    go false = omega arith

pub premise_cycles : (b : Ledger) → Premise b → b.day.cycles < 2 ^ 63
premise_cycles b p = omega (arith, p.day.cycles, few b.day.kind)

module _ (b : Ledger) (due marks : ℕ) (chosen : Selected b due marks) where
  -- how many are left

  abbrev left : ℕ
  left = count_on (is_on due) (length b.waiting) - count_on (is_on marks) (length b.waiting)

  left_out : left ≡ left_by b
  left_out = omega (arith, counted b due marks chosen.due_marked chosen.fixed_marked)

  -- the marks on the items
  marks_fixed : bearing (marked_of marks b.waiting) ≡ fixing (selection b)
  unfolding bearing fixing
  marks_fixed = ap bearing chosen.fixed_marked ∙ go (selection b)
    where
      go : (es : List Entry) → bearing (map mark_of es) ≡ map (λ e. with_sent (is_sent (selection b) e) e.item) es
      go [] = refl
      go (e ∷ rest) = ap₂ ◌∷◌ (ap (λ (x : Bool). with_sent x e.item) (sym (sent-alone (selection b) (selection-alone b) e))) (go rest)

  -- the book, after its waiting list and its day are changed
  module _ (first : List ℕ) (listed : Means first (put_waiting (bearing (marked_of marks b.waiting)) b)) where
    pub same_day : (ledger_of first).day ≡ b.day
    unfolding put_waiting
    same_day = ap (λ (x : Ledger). x.day) listed.ledger

    module _ (second : List ℕ) (dated : Means second (put_day (cycle_sent (ledger_of first).day) (ledger_of first))) where
      pub handled : (order : Order) (area : List ℕ) (r : Counts) → r ≡ counts 0 0 0 0 0 left → Handled (cycle b order) second area area r
      unfolding put_waiting put_day cycle outcome rows_bytes
      handled order area r e = record {
        stored = dated.stored;
        ledger =
            (next (λ x. put_day (cycle_sent x.day) x) listed dated).ledger
            ∙ ap (λ (ws : List Item). put_day (cycle_sent b.day) (put_waiting ws b)) marks_fixed;
        counted = e ∙ ap (counts 0 0 0 0 0) left_out;
        written = refl;
      }
