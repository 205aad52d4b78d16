-- The lines that export writes of records that read are the canonical table of their orders. Assumes nothing.
use Prim.Native.Nat.{ℕ}
use mathlib.Core.List.{List, [], ◌∷◌, ◌++◌, append_assoc}
use mathlib.Core.Path.{◌≡◌, refl}
use Rattle.rulebook.specs.Names.{field_names}
use Rattle.rulebook.specs.Record.{fields_of}
use Rattle.rulebook.specs.declared.Order.{Order}
use Rattle.text.specs.Parts.{line_feed, join}
use Rattle.cells.specs.Cells.{comma}
use Rattle.file.specs.Records as File
use Rattle.wording.specs.Fill.{is_sign, said, part, left, fill}
use Rattle.table.specs.Export.{name_cells, order_cells, order_lines, table_of}
use Rattle.table_lines.specs.Exported.{name_line, order_line, read_line, record_lines, exported}
use Rattle.round_trip.specs.RoundTrips.{EachReads}
use Rattle.round_trip.specs.RoundTrips.EachReads.{none, one}

pub names_same : name_line ≡ join comma name_cells ++ (line_feed ∷ [])
unfolding name_line join name_cells field_names
names_same = refl

pub order_same : (order : Order) → order_line order ≡ join comma (order_cells order) ++ (line_feed ∷ [])
unfolding order_line fill part left is_sign said join order_cells fields_of
order_same order = simp append_assoc

lines_same : {records : List (List ℕ)} {all : List Order} → EachReads records all → record_lines records ≡ order_lines all
unfolding record_lines read_line order_lines
lines_same none = refl
lines_same (one {order = order} {all = all} read rest) =
    rw (read, order_same order, lines_same rest, append_assoc (join comma (order_cells order)) (line_feed ∷ []) (order_lines all))

pub table_same : (file : List ℕ) (all : List Order) → EachReads (File.records_of file) all → exported file ≡ table_of all
unfolding exported table_of
table_same file all each = rw (names_same, lines_same each, append_assoc (join comma name_cells) (line_feed ∷ []) (order_lines all))
