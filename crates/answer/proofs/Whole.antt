-- The whole answer: what its parts leave is the rulebook's outcome. Assumes nothing.
use Prim.Native.Nat.{ℕ, ◌+◌, ◌*◌}
use native.Mathlib.Omega.{arith}
use mathlib.Core.Bool.{true, false, false≢true}
use mathlib.Core.List.{List, [], ◌∷◌, ◌++◌, map}
use mathlib.Core.Path.{◌≡◌, refl, sym, ap, subst, ◌∙◌}
use lib.ListN.{length, drop}
use Rattle.plain.specs.Lists.{Each}
use Rattle.rulebook.specs.Ledger.{Ledger, put_day, put_holdings, put_waiting, cycle_answered}
use Rattle.rulebook.specs.Movements.{booked}
use Rattle.rulebook.specs.Rows.{posting_rows, rows_bytes}
use Rattle.rulebook.specs.Waiting.{is_trade, sides_of, sides, with_sent}
use Rattle.rulebook.specs.Shortfall.{NothingShort}
use Rattle.rulebook.specs.Cycle.{settled, not_settled, declined, legs}
use Rattle.rulebook.specs.Forms.{counts, outcome, confirm}
use Rattle.rulebook.specs.Premise.{Premise}
use Rattle.rulebook.specs.declared.Counts.{Counts}
use Rattle.rulebook.specs.declared.Item.{Item}
use Rattle.rulebook.specs.declared.State.{State}
use Rattle.rulebook.specs.declared.State.TheVariants.{Single, Pair, Trade}
use Rattle.rulebook.proofs.Selection.Fixing.{Due}
use Rattle.rulebook.proofs.Settled.{settled-due}
use Rattle.rulebook.proofs.RowCounts.{posting_length, legs-length}
use Rattle.words.proofs.Places.{from_same, from_map}
use Rattle.book.specs.Meaning.{ledger_of}
use Rattle.book.specs.Stored.{Means}
use Rattle.book.specs.Handled.{Handled}
use Rattle.book.proofs.Parts.{next}
use Rattle.marks.specs.Marks.{Marked, with_mark, without_mark, item_in, is_on, marked_of, count_on, with_rows}
use Rattle.marks.proofs.Masks.{none_on}
use Rattle.marks.proofs.Marking.{listed, count_marked}
use Rattle.fixing.specs.Borne.{bearing, borne}
use Rattle.fixing.proofs.Borne.{borne-fixed, borne-rest}

-- ---- a trade has two sides

two : (s : State) → is_trade s ≡ true → sides_of s ≡ 2
unfolding is_trade sides_of
two (Single delivers reference) e = absurd (false≢true e)
two (Pair d r dm rm) e = refl
two (Trade reference) e = refl

sides-two : (day : ℕ) (ts : List Item) → Each (Due day) ts → sides ts ≡ 2 * length ts
unfolding sides
sides-two day [] e = refl
sides-two day (t ∷ rest) e = omega (arith, two t.state e.0.0, sides-two day rest e.1)

-- ---- confirmed

module _ (b : Ledger) (p : Premise b) (marks : ℕ) (on-items : marked_of marks b.waiting ≡ borne b.waiting) where
  -- the marked items are the fixed ones
  are_fixed : with_mark (marked_of marks b.waiting) ≡ settled b
  unfolding settled
  are_fixed = ap with_mark on-items ∙ borne-fixed b.waiting

  wait_on : without_mark (marked_of marks b.waiting) ≡ not_settled b
  unfolding not_settled
  wait_on = ap without_mark on-items ∙ borne-rest b.waiting

  -- what is fixed can be booked now
  pub none_short : NothingShort b.holdings (with_mark (marked_of marks b.waiting))
  unfolding settled
  none_short = subst (NothingShort b.holdings) (sym are_fixed) p.covered

  abbrev number : ℕ
  number = count_on (is_on marks) (length b.waiting)

  on_settled : number ≡ length (settled b)
  unfolding marked_of
  on_settled = sym (count_marked (item_in b.waiting) (length b.waiting) (is_on marks)) ∙ ap length are_fixed

  same_counts : counts (4 * number) (2 * number) 0 0 0 0 ≡ counts (length (posting_rows (legs (settled b)))) (sides (settled b)) 0 0 0 0
  unfolding counts
  same_counts =
      let rows : 4 * number ≡ length (posting_rows (legs (settled b))) = omega (arith, on_settled, posting_length (legs (settled b)), legs-length (settled b)) in
      let both : 2 * number ≡ sides (settled b) = omega (arith, on_settled, sides-two b.day.number (settled b) (settled-due b p.sent)) in
      λ i. record { rows = rows i; settled = both i; cancelled = 0; deleted = 0; suspended = 0; left = 0 }

  -- the book, after its holdings, its waiting list and its day are changed
  module _
      (first : List ℕ)
      (held : Means first (put_holdings (booked (legs (with_mark (marked_of marks b.waiting))) b.holdings) b))
      (second : List ℕ)
      (left : Means second (put_waiting (without_mark (marked_of marks (ledger_of first).waiting)) (ledger_of first)))
      (third : List ℕ)
      (dated : Means third (put_day (cycle_answered (ledger_of second).day) (ledger_of second)))
    where
      stays :
          Means second
          (put_waiting (without_mark (marked_of marks b.waiting)) (put_holdings (booked (legs (with_mark (marked_of marks b.waiting))) b.holdings) b))
      unfolding put_holdings
      stays = next (λ x. put_waiting (without_mark (marked_of marks x.waiting)) x) held left

      pub confirmed :
          (area area' : List ℕ) (r : Counts) → area' ≡ with_rows (marked_of marks b.waiting) area → r ≡ counts (4 * number) (2 * number) 0 0 0 0
          → Handled (confirm b) third area area' r
      unfolding confirm outcome put_day put_holdings put_waiting
      confirmed area area' r w e = record {
        stored = dated.stored;
        ledger =
            (next (λ x. put_day (cycle_answered x.day) x) stays dated).ledger
            ∙ ap
            (λ (ts : List Item).
            put_day (cycle_answered b.day) (put_waiting (without_mark (marked_of marks b.waiting)) (put_holdings (booked (legs ts) b.holdings) b)))
            are_fixed
            ∙ ap (λ (ws : List Item). put_day (cycle_answered b.day) (put_waiting ws (put_holdings (booked (legs (settled b)) b.holdings) b))) wait_on;
        counted = e ∙ same_counts;
        written = w ∙ ap (λ (ts : List Item). rows_bytes (posting_rows (legs ts)) ++ drop (16 * length (posting_rows (legs ts))) area) are_fixed;
      }

-- ---- declined

-- with no mark no item is fixed
no_marks : (ws : List Item) → bearing (marked_of 0 ws) ≡ declined ws
unfolding bearing marked_of declined
no_marks ws =
    from_map (λ (m : Marked). with_sent m.0 m.1) (λ k. (is_on 0 k, item_in ws k)) 0 (length ws)
    ∙ from_same (λ k. with_sent false (item_in ws k)) (λ k. with_sent (is_on 0 k) (item_in ws k)) 0 0 (length ws) (λ k l. rw (none_on (0 + k)))
    ∙ sym (from_map (with_sent false) (item_in ws) 0 (length ws))
    ∙ ap (map (with_sent false)) (listed ws)

pub let_go :
    (b : Ledger) (first : List ℕ) → Means first (put_waiting (bearing (marked_of 0 b.waiting)) b) → (second : List ℕ)
    → Means second (put_day (cycle_answered (ledger_of first).day) (ledger_of first))
    → Means second (put_day (cycle_answered b.day) (put_waiting (declined b.waiting) b))
unfolding put_waiting
let_go b first freed second dated =
    subst (λ (ws : List Item). Means second (put_day (cycle_answered b.day) (put_waiting ws b))) (no_marks b.waiting)
    (next (λ x. put_day (cycle_answered x.day) x) freed dated)
