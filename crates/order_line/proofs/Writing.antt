-- A line's order, and its record. Assumes nothing.
use Rattle.std.specs.Prelude.{if◌then◌else◌, Result, Ok, Err, Option, Some, None, MatchOption, unwrap_or}
use Prim.Native.Nat.{ℕ, ◌≤◌, ◌<◌}
use mathlib.Core.Bool.{Bool, true, false}
use mathlib.Core.List.{List, ◌++◌}
use mathlib.Core.Path.{◌≡◌, refl, sym, ap}
use borrow.Author.Tests.{le-ltb}
use lib.ListN.{length, drop}
use Rattle.plain.specs.Lists.{◌is◌, first}
use Rattle.rulebook.specs.Record.{order_of, fields_of, field_tests, record_of, write_refusal, written_of, area_written}
use Rattle.rulebook.specs.declared.Order.{Order}
use Rattle.rulebook.specs.Answers.{Written, number_of, refusal_of}
use Rattle.rulebook.proofs.Answers.{number-back}
use Rattle.rulebook.proofs.Checking.{first-known}
use native.Mathlib.Omega.{arith}
use Rattle.field_rules.specs.Fields.{refused_place}
use Rattle.cells.specs.declared.kind.Kind.TheVariants.{Record}
use Rattle.table.specs.Header.{refused}
use Rattle.table.specs.Lines.{column_from, line_fields, ordered, row_of, row_written}
use Rattle.table.specs.declared.Wrong.{Wrong}

-- the column that is told, 0 where there is none
pub or_none : (r : Option ℕ) {c : ℕ} → MatchOption r (c ≡ 0) (λ column. (column ≡ c) × (0 < column)) → unwrap_or r 0 ≡ c
or_none None e = sym e
or_none (Some column) e = e.0

-- the row that the record writer's answer makes of an order
abbrev pub told : List ℕ → Order → Written → Result Order Wrong
told places order (Ok done) = Ok order
told places order (Err refusal) =
    refused (Record (number_of refusal)) (column_from 1 places (refused_place (fields_of order))) (refused_place (fields_of order))

module _ (places line : List ℕ) where
  pub row-unread : (wrong : Wrong) → Err wrong ≡ line_fields places line → Err wrong ≡ row_of places line
  unfolding row_of ordered
  row-unread wrong e = ap (ordered places) e

  pub row_told : (values : List ℕ) → Ok values ≡ line_fields places line → (order : Order) → order ≡ order_of values → (area : List ℕ) → 40 ≤ length area
      → (answer : Written) → answer ≡ written_of order area
      → (told places order answer ≡ row_of places line) × (area_written order area ≡ row_written (told places order answer) area)
  unfolding row_of ordered written_of area_written write_refusal row_written
  row_told values e order o area room answer w =
      let number : ℕ = first (field_tests (fields_of order)) in
      rw (w, ← e, ← o)
      (simp (le-ltb (length area) 40 room) (go (number is 0) number refl (first-known (field_tests (fields_of order)) (omega arith))))
    where
      place : ℕ
      place = refused_place (fields_of order)

      go : (t : Bool) (n : ℕ) → (n is 0) ≡ t → n ≤ 24
          → (told places order (if t then Ok tt else Err (refusal_of n)) ≡ (if t then Ok order else refused (Record n) (column_from 1 places place) place))
          × ((if t then record_of order ++ drop 40 area else area) ≡ row_written (told places order (if t then Ok tt else Err (refusal_of n))) area)
      go true n p l = (refl, refl)
      go false n p l = (rw (number-back n p l), refl)
