-- The lines of a table: the orders that they say.
use Rattle.std.specs.Prelude.{if◌then◌else◌, ℕ, ◌+◌, ◌*◌, List, [], ◌∷◌, ◌++◌, length, get_or, set, replicate, drop, Result, Ok, Err}
use Rattle.plain.specs.Lists.{◌is◌, within, first}
use Rattle.rulebook.specs.Field.{form, minute}
use Rattle.rulebook.specs.Record.{fields_of, order_of, field_tests, record_of}
use Rattle.rulebook.specs.declared.Order.{Order}
use Rattle.names.specs.Numbers.{form_number}
use Rattle.field_rules.specs.Fields.{refused_place}
use Rattle.cells.specs.declared.kind.Kind.TheVariants.{TooFewCells, TooManyCells, EmptyCell, UnknownForm, EmptyLine, Record}
use Rattle.cells.specs.Cells.{cells, trim, is_empty, strange, number_in}
use Rattle.cells.specs.declared.kind.Kind.{Kind}
use Rattle.table.specs.Header.{no_place, Parsed, wrong, refused}
use Rattle.table.specs.declared.Wrong.{Wrong}
use Rattle.table.specs.declared.Refused.{Refused}

-- ---- a cell under its column

-- a form: what starts with a digit is its number, all else its name
unfoldable pub form_in : List ℕ → Result ℕ Kind
form_in text =
    let number = form_number text in
    if length text is 0 then Err EmptyCell
    else if within 48 57 (get_or text 0 0) then number_in text
    else if number is 0 then Err (strange UnknownForm text)
    else Ok number

-- an empty cell says 0
unfoldable pub optional_in : List ℕ → Result ℕ Kind
optional_in text = let number = number_in text in if length text is 0 then Ok 0 else number

-- the number that a cell says under a field's name; under form and minute it may not be empty
unfoldable pub field_number : (place : ℕ) → List ℕ → Result ℕ Kind
field_number place cell =
    if place is form then form_in (trim cell) else if place is minute then number_in (trim cell) else optional_in (trim cell)

-- ---- a line

-- go on with the number in a cell, or refuse the cell
unfoldable pub with_number : Result ℕ Kind → (column place : ℕ) → (ℕ → Parsed) → Parsed
with_number (Ok n) column place next = next n
with_number (Err kind) column place next = refused kind column place

-- each cell's number goes into the field of its column
unfoldable pub fields_from : List ℕ → (column : ℕ) → List ℕ → List (List ℕ) → Parsed
fields_from [] column values [] = Ok values
fields_from [] column values (cell ∷ others) = refused TooManyCells column no_place
fields_from (place ∷ places) column values [] = refused TooFewCells column place
fields_from (place ∷ places) column values (cell ∷ others) =
    with_number (field_number place cell) column place (λ n. fields_from places (column + 1) (set values place n) others)

-- the fields of a line: those without a column are 0
unfoldable pub line_fields : List ℕ → List ℕ → Parsed
line_fields places line =
    let fields = fields_from places 1 (replicate 19 0) (cells line) in
    if is_empty line then refused EmptyLine 0 no_place else fields

-- the column of a field among columns that are counted on from a column; 0 where it has none
unfoldable pub column_from : (column : ℕ) → List ℕ → (place : ℕ) → ℕ
column_from column [] place = 0
column_from column (other ∷ others) place = let later = column_from (column + 1) others place in if place is other then column else later

-- the order of such fields goes through the record writer's tests, 3 to 5; what is told is the first field to which the test applies
unfoldable pub ordered : List ℕ → Parsed → Result Order Wrong
ordered places (Err wrong) = Err wrong
ordered places (Ok values) =
    let order = order_of values in
    let number = first (field_tests (fields_of order)) in
    let place = refused_place (fields_of order) in
    if number is 0 then Ok order else refused (Record number) (column_from 1 places place) place

-- a line of a table with these columns
unfoldable pub row_of : List ℕ → List ℕ → Result Order Wrong
row_of places line = ordered places (line_fields places line)

-- a buffer after a row: its record at the start, the rest as it was
unfoldable pub row_written : Result Order Wrong → List ℕ → List ℕ
row_written (Ok order) out = record_of order ++ drop 40 out
row_written (Err wrong) out = out

-- ---- lines, one after the other

-- what lines say: the orders, or the first refusal, with its line, column and field
pub data Imported : Type 0 where
  refused_as : Refused → Imported
  orders : List Order → Imported

-- what is wrong in the line with a number
abbrev pub in_line : ℕ → Wrong → Refused
in_line line wrong = record { line = line; wrong = wrong }

abbrev pub refused_at : (kind : Kind) (line column place : ℕ) → Imported
refused_at kind line column place = refused_as (in_line line (wrong kind column place))

-- an order before the others; where a later line is refused, nothing
unfoldable pub more : Order → Imported → Imported
more order (refused_as why) = refused_as why
more order (orders others) = orders (order ∷ others)

unfoldable pub with_row : Result Order Wrong → ℕ → Imported → Imported
with_row (Ok order) line later = more order later
with_row (Err wrong) line later = refused_as (in_line line wrong)

-- the rows of lines, the first of which has this number
unfoldable pub rows_from : List ℕ → ℕ → List (List ℕ) → Imported
rows_from places line [] = orders []
rows_from places line (text ∷ others) = with_row (row_of places text) line (rows_from places (line + 1) others)

-- the records of orders, one behind the other
unfoldable pub records_of : List Order → List ℕ
records_of [] = []
records_of (order ∷ others) = record_of order ++ records_of others

-- a buffer with the records of orders at its start
unfoldable pub filled : List Order → List ℕ → List ℕ
filled all out = records_of all ++ drop (40 * length all) out
