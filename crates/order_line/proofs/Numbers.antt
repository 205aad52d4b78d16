-- The numbers of a line, one after the other. Assumes nothing.
use Rattle.std.specs.Prelude.{Ok, Err}
use Prim.Native.Nat.{ℕ, suc, ◌+◌, ◌≤◌, ◌<◌}
use native.Mathlib.Numerals.{add-one}
use mathlib.Core.List.{List, ◌∷◌}
use mathlib.Core.Path.{◌≡◌, sym, ap, ◌∙◌}
use lib.ListN.{length, get_or, drop, set, drop_of_length-le}
use lib.Seq.{drop-cons}
use Rattle.text.proofs.Cutting.{here}
use Rattle.cells.specs.declared.kind.Kind.{Kind}
use Rattle.cells.specs.declared.kind.Kind.TheVariants.{TooFewCells, TooManyCells}
use Rattle.cells.specs.Cells.{cells}
use Rattle.table.specs.Header.{no_place, Parsed, refused}
use Rattle.table.specs.Lines.{with_number, field_number, fields_from}

-- behind so many columns come cells and places, or none
module _ (places values : List ℕ) (column : ℕ) (line : List ℕ) (r : Parsed)
    (e : fields_from (drop column places) (column + 1) values (drop column (cells line)) ≡ r) where
  -- no cell is left
  pub all-cells : length places ≤ column → length (cells line) ≤ column → Ok values ≡ r
  unfolding fields_from
  all-cells c h = sym (rw (drop_of_length-le places c, drop_of_length-le (cells line) h)) ∙ e

  pub few_cells : column < length places → length (cells line) ≤ column → refused TooFewCells (column + 1) (get_or places column 0) ≡ r
  unfolding fields_from
  few_cells c h = sym (rw (here places column c, drop_of_length-le (cells line) h)) ∙ e

  -- a cell is
  module _ (cell : List ℕ) (next : (column < length (cells line)) × (cell ≡ get_or (cells line) column cell)) where
    cell-here : drop column (cells line) ≡ cell ∷ drop (column + 1) (cells line)
    cell-here = rw add-one (drop-cons (cells line) column cell next.0 ∙ ap (λ (c : List ℕ). c ∷ drop (suc column) (cells line)) (sym next.1))

    pub many_cells : length places ≤ column → refused TooManyCells (column + 1) no_place ≡ r
    unfolding fields_from
    many_cells c = sym (rw (drop_of_length-le places c, cell-here)) ∙ e

    pub bad_cell : column < length places → (kind : Kind) → field_number (get_or places column 0) cell ≡ Err kind
        → refused kind (column + 1) (get_or places column 0) ≡ r
    unfolding fields_from with_number
    bad_cell c kind f = sym (rw (here places column c, cell-here, f)) ∙ e

    pub good_cell : column < length places → (n : ℕ) → field_number (get_or places column 0) cell ≡ Ok n
        → fields_from (drop (column + 1) places) (column + 1 + 1) (set values (get_or places column 0) n) (drop (column + 1) (cells line)) ≡ r
    unfolding fields_from with_number
    good_cell c n f = sym (rw (here places column c, cell-here, f)) ∙ e
