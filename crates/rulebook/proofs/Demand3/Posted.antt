-- Every account, outside count and member's cash is what the rows written say, over any list of calls. Assumes nothing.
use mathlib.Core.Path.{◌≡◌, refl}
use mathlib.Core.Bool.{Bool, true, false}
use mathlib.Core.List.{List, ◌++◌}
use Prim.Native.Nat.{ℕ, ◌+◌, ◌*◌}
use native.Mathlib.Omega.{arith}
use lib.ListN.{length, drop}
use Rattle.rulebook.specs.declared.Order.{Order}
use Rattle.plain.specs.Lists.{total}
use Rattle.rulebook.specs.Ledger.{Ledger, fresh, outside_of}
use Rattle.rulebook.specs.Movements.{Place, account, type91, type90, cash_of, member0, book_has}
use Rattle.rulebook.specs.Rows.{posting_rows, rows_bytes}
use Rattle.rulebook.specs.Forms.{Outcome, row_of, effect, writes}
use Rattle.rulebook.specs.Call.{accepted}
use Rattle.rulebook.specs.Calls.{Call, calls_on, book_after, Accepted, first_rows, postings_of, written, debits_written, credits_written}
use Rattle.rulebook.proofs.Reading.{counts, entries, rows_back, entries-brought, entries-taken}
use Rattle.rulebook.proofs.Steps.OneCall.{writes_at, Step}
use Rattle.rulebook.proofs.ByCall.{accepted_call}
use Rattle.rulebook.proofs.Demand3.Totals.{by_step}

module _ (place : Place) where
  -- the rows of an order that writes postings
  step_rows :
      (b : Ledger) (o : Order) (x : Outcome) (t : Step o.form b o x) (area : List ℕ) → writes_at o.form ≡ 1
      → first_rows x.counts.rows (rows_bytes x.rows ++ drop (16 * length x.rows) area) ≡ entries t.moves
  step_rows b o x t area w =
      rw (t.counted, t.rows w) (rows_back t.moves (drop (16 * length (posting_rows t.moves)) area) t.proper)

  -- what the rows of an accepted call count for the place
  abbrev counted : ℕ → Accepted → ℕ
  counted credit c = total (counts credit place) (postings_of c)

  -- a call changes what a place has by what its rows say
  call_posts :
      (b : Ledger) (o : Order) (area : List ℕ) → Step o.form b o (effect b o)
      → counted 1 (accepted_call b o area) + book_has place b.holdings ≡ counted 0 (accepted_call b o area) + book_has place (effect b o).after.holdings
  unfolding accepted postings_of writes
  call_posts b o area t = go (row_of o.form).posts refl
    where
      go :
          (w : Bool) → (row_of o.form).posts ≡ w
          → counted 1 (accepted_call b o area) + book_has place b.holdings ≡ counted 0 (accepted_call b o area) + book_has place (effect b o).after.holdings
      go true e =
          let r = step_rows b o (effect b o) t area (simp e) in
          simp (e, r)
          (omega (arith, t.changes place, entries-brought place t.moves t.proper, entries-taken place t.moves t.proper))
      go false e =
          let n = t.notices (simp e) in
          let c = t.changes place in
          simp e (omega (arith, rw n at c))

none_there : (place : Place) → book_has place fresh.holdings ≡ 0
unfolding fresh outside_of
none_there (account a) = refl
none_there (type91 s) = refl
none_there (type90 s) = refl
none_there (cash_of m c) = refl
none_there (member0 c) = refl

-- every account, outside count and member's cash is credits less debits written
pub posted :
    (place : Place) (calls : List Call)
    → book_has place (book_after fresh calls).holdings + debits_written place (calls_on fresh calls) ≡ credits_written place (calls_on fresh calls)
unfolding debits_written credits_written written
posted place = by_step (book_has place) (counted place 1) (counted place 0) (call_posts place) (none_there place)
