-- The table that says some orders: every field under its name, a line for each order.
use Rattle.std.specs.Prelude.{ℕ, List, [], ◌∷◌, ◌++◌, map, ◌≡◌, take, drop}
use Rattle.plain.specs.Lists.{first, Each}
use Rattle.rulebook.specs.Names.{field_names, form_name}
use Rattle.rulebook.specs.Record.{fields_of, field_tests}
use Rattle.rulebook.specs.declared.Order.{Order}
use Rattle.text.specs.Text.{text, decimal}
use Rattle.text.specs.Parts.{line_feed, join}
use Rattle.cells.specs.Cells.{comma}
use Rattle.table.specs.Header.{no_place}

-- the first line of the canonical table
unfoldable pub name_cells : List (List ℕ)
name_cells = map text field_names

-- the cells of an order: the form's name, then the other fields in decimal digits with no leading zero
unfoldable pub order_cells : Order → List (List ℕ)
order_cells order = text (form_name order.form) ∷ map decimal (drop 1 (take no_place (fields_of order)))

unfoldable pub order_lines : List Order → List ℕ
order_lines [] = []
order_lines (order ∷ others) = join comma (order_cells order) ++ (line_feed ∷ order_lines others)

-- the canonical table of orders
unfoldable pub table_of : List Order → List ℕ
table_of all = join comma name_cells ++ (line_feed ∷ order_lines all)

-- orders that the record writer takes
unfoldable pub Writable : List Order → Type 0
Writable all = Each (λ order. first (field_tests (fields_of order)) ≡ 0) all
