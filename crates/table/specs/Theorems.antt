-- What is proved of a table's import.
use Rattle.std.specs.Prelude.{ℕ, zero, suc, ◌+◌, ◌*◌, ◌<◌, ◌≤◌, true, false, List, [], ◌∷◌, ◌++◌, map, ◌≡◌, length, get_or, Option, None, Ok}
use Rattle.rulebook.specs.Record.{fields_of, record_of, read_of}
use Rattle.rulebook.specs.declared.Order.{Order}
use Rattle.text.specs.Parts.{line_feed, up_to}
use Rattle.names.specs.Numbers.{field_place}
use Rattle.cells.specs.Cells.{cells, trim, is_empty, lines_of, full_lines, whole_lines, tail_of}
use Rattle.table.specs.Header.{no_place}
use Rattle.table.specs.Lines.{field_number, rows_from}
use Rattle.table.specs.Lines.Imported.{orders}
use Rattle.table.specs.Import.{unmarked, import_lines, import_of, written, is_refused, and_then}
use Rattle.table.specs.Blocks.{walk, onward, outcome, met_in}
use Rattle.table.specs.Export.{table_of, Writable}

-- ---- names

-- the field that a column of this first line names
abbrev pub field_at : List ℕ → ℕ → ℕ
field_at header column = field_place (trim (get_or (cells header) column []))

-- an order says what its line says under the names of the first line
pub record Says (header line : List ℕ) (order : Order) : Type 0 where
  -- the line has a cell for each column
  pub as_many : length (cells line) ≡ length (cells header)
  -- the field that a column names is the number in that column's cell
  pub named : (column : ℕ) → column < length (cells header)
      → field_number (field_at header column) (get_or (cells line) column []) ≡ Ok (get_or (fields_of order) (field_at header column) 0)
  -- a field that no column names is 0
  pub other : (place : ℕ) → place < no_place → ((column : ℕ) → column < length (cells header) → field_at header column ≡ place → ⊥)
      → get_or (fields_of order) place 0 ≡ 0
  -- and the record reads back as this order
  pub back : read_of (record_of order) ≡ Ok order

-- two lists, each element of the one with that of the other in the same place
pub data Along {A B : Type 0} (Fits : A → B → Type 0) : List A → List B → Type 0 where
  none : Along Fits [] []
  one : {a : A} {b : B} {rest : List A} {others : List B} → Fits a b → Along Fits rest others → Along Fits (a ∷ rest) (b ∷ others)

-- (a) in each record the field that a column names is the number in that column's cell, and a field without a column is 0
unfoldable pub NamedFields : Type 0
NamedFields = (file header : List ℕ) (others : List (List ℕ)) (all : List Order) → lines_of (unmarked file) ≡ header ∷ others
    → import_of file ≡ orders all → Along (Says header) (full_lines others) all

-- (b) a column under a name of its own has the table refused, whatever else stands in it
unfoldable pub UnknownRefused : Type 0
UnknownRefused = (file header : List ℕ) (others : List (List ℕ)) (column : ℕ) → lines_of (unmarked file) ≡ header ∷ others
    → column < length (cells header) → field_at header column ≡ no_place → is_refused (import_of file) ≡ true

-- ---- the order of the columns

-- two neighbours of a list change places
module _ {A : Type 0} where
  unfoldable pub exchange : ℕ → List A → List A
  exchange k [] = []
  exchange zero (a ∷ []) = a ∷ []
  exchange zero (a ∷ b ∷ rest) = b ∷ a ∷ rest
  exchange (suc k) (a ∷ rest) = a ∷ exchange k rest

-- the cells of two neighbouring columns have changed places
abbrev pub Exchanged : ℕ → List ℕ → List ℕ → Type 0
Exchanged k line other = cells other ≡ exchange k (cells line)

-- the columns stand in another order: in each line, the first among them, neighbours changed places, one pair after the other
pub data Rearranged : List (List ℕ) → List (List ℕ) → Type 0 where
  same : {lines : List (List ℕ)} → Rearranged lines lines
  then : {lines between others : List (List ℕ)} (k : ℕ) → Along (Exchanged k) lines between → Rearranged between others → Rearranged lines others

-- (c) the order of the columns changes nothing
unfoldable pub AnyOrder : Type 0
AnyOrder = (lines others : List (List ℕ)) (all : List Order) → Rearranged lines others → import_lines lines ≡ orders all → import_lines others ≡ orders all

-- and a table that is refused is refused in any order of its columns, though another column may be told
unfoldable pub RefusedAnyOrder : Type 0
RefusedAnyOrder = (lines others : List (List ℕ)) → Rearranged lines others → is_refused (import_lines lines) ≡ true → is_refused (import_lines others) ≡ true

-- ---- one column more

-- an element more, at a place
module _ {A : Type 0} where
  unfoldable pub insert : ℕ → A → List A → List A
  insert zero a rest = a ∷ rest
  insert (suc k) a [] = a ∷ []
  insert (suc k) a (b ∷ rest) = b ∷ insert k a rest

-- a line has a cell more, at a place
pub record Widened (k : ℕ) (line other : List ℕ) : Type 0 where
  pub cell : List ℕ
  pub wider : cells other ≡ insert k cell (cells line)

-- two orders differ in one field at most
abbrev pub Agree : (place : ℕ) → Order → Order → Type 0
Agree place order other = (field : ℕ) → (field ≡ place → ⊥) → get_or (fields_of other) field 0 ≡ get_or (fields_of order) field 0

-- (d) one more column under a field's name moves no other field
unfoldable pub OneColumnMore : Type 0
OneColumnMore = (k : ℕ) (header header' name : List ℕ) (lines lines' : List (List ℕ)) (all all' : List Order)
    → cells header' ≡ insert k name (cells header) → Along (Widened k) (full_lines lines) (full_lines lines')
    → import_lines (header ∷ lines) ≡ orders all → import_lines (header' ∷ lines') ≡ orders all'
    → Along (Agree (field_place (trim name))) all all'

-- ---- what is written

-- (e) a table that is refused yields no record
unfoldable pub NothingWritten : Type 0
NothingWritten = (file : List ℕ) → is_refused (import_of file) ≡ true → written (import_of file) ≡ []

-- ---- empty lines

-- (f) empty lines at the end change nothing
unfoldable pub EmptyEnd : Type 0
EmptyEnd = (header : List ℕ) (lines : List (List ℕ)) (line : List ℕ) → is_empty line ≡ true
    → import_lines (header ∷ lines ++ (line ∷ [])) ≡ import_lines (header ∷ lines)

-- (g) an empty line with one behind it that is not empty has the table refused
unfoldable pub EmptyRefused : Type 0
EmptyRefused = (header : List ℕ) (lines others : List (List ℕ)) (line later : List ℕ) → is_empty line ≡ true → is_empty later ≡ false
    → is_refused (import_lines (header ∷ lines ++ (line ∷ later ∷ others))) ≡ true

-- ---- a file in blocks

-- the lines that end in a block, then those of its tail with the next block behind it
unfoldable pub InBlocks : Type 0
InBlocks = (block next : List ℕ) → lines_of (block ++ next) ≡ whole_lines block ++ lines_of (tail_of block ++ next)

-- a last line without an end is the line that a line feed behind it would make
unfoldable pub LastLine : Type 0
LastLine = (tail : List ℕ) → 0 < length tail → length tail ≤ up_to line_feed tail → lines_of tail ≡ whole_lines (tail ++ (line_feed ∷ []))

-- rows in blocks: those of a block, then those of the lines behind it, with their numbers
unfoldable pub RowsInBlocks : Type 0
RowsInBlocks = (places : List ℕ) (line : ℕ) (block next : List (List ℕ))
    → rows_from places line (block ++ next) ≡ and_then (rows_from places line block) (rows_from places (line + length block) next)

-- a walk over lines in blocks
unfoldable pub WalkInBlocks : Type 0
WalkInBlocks = (places : List ℕ) (line : ℕ) (empty : Option ℕ) (block next : List (List ℕ))
    → walk places line empty (block ++ next) ≡ onward (walk places line empty block) (λ reached passed. walk places reached passed next)

-- and at the end of the lines it has come to what the table says
unfoldable pub WalkIsImport : Type 0
WalkIsImport = (places : List ℕ) (line : ℕ) (lines : List (List ℕ)) → outcome (walk places line None lines) ≡ rows_from places line (full_lines lines)

-- the lines that a check passes are all converted
unfoldable pub AllConverted : Type 0
AllConverted = (places : List ℕ) (line : ℕ) (lines : List (List ℕ)) (all : List Order) → rows_from places line (full_lines lines) ≡ orders all
    → met_in (walk places line None lines) ≡ all

-- and 20 bytes for each byte of a block are room enough for its records
unfoldable pub RoomEnough : Type 0
RoomEnough = (places : List ℕ) (line : ℕ) (empty : Option ℕ) (block : List ℕ) → 2 * length (met_in (walk places line empty (whole_lines block))) ≤ length block

-- ---- there and back

-- the canonical table of orders that the record writer takes imports as these orders
unfoldable pub ExportImports : Type 0
ExportImports = (all : List Order) → Writable all → import_of (table_of all) ≡ orders all

-- the orders of a table are such orders: each record that is written for it reads back as its order, and their canonical table imports as them
unfoldable pub ImportExports : Type 0
ImportExports = (file : List ℕ) (all : List Order) → import_of file ≡ orders all
    → Writable all × (map (λ order. read_of (record_of order)) all ≡ map Ok all) × (import_of (table_of all) ≡ orders all)
