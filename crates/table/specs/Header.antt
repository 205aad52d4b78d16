-- The first line of a table: the field of each column, by its name alone.
use Rattle.std.specs.Prelude.{if◌then◌else◌, ℕ, ◌+◌, not, List, [], ◌∷◌, ◌++◌, length, take, Result, Ok, Err}
use Rattle.plain.specs.Lists.{◌is◌, ◌at_most◌, ◌one_of◌}
use Rattle.rulebook.specs.Field.{form, minute}
use Rattle.names.specs.Numbers.{field_place}
use Rattle.cells.specs.declared.kind.Kind.TheVariants.{TooManyColumns, UnknownName, RepeatedName, FormMissing, MinuteMissing, EmptyCell, EmptyLine}
use Rattle.cells.specs.Cells.{cells, trim, is_empty, strange}
use Rattle.cells.specs.declared.kind.Kind.{Kind}
use Rattle.table.specs.declared.Columns.{Columns}
use Rattle.table.specs.declared.Wrong.{Wrong}
pub use Rattle.table.specs.Places.{no_place, Known}

-- what a line says, or why it says nothing
abbrev pub Parsed : Type 0
Parsed = Result (List ℕ) Wrong

-- a kind of refusal; the column, counted from 1, or 0 where no single column is meant; the field's place, or `no_place` where no field is meant
abbrev pub wrong : (kind : Kind) (column place : ℕ) → Wrong
wrong kind column place = record { kind = kind; column = column; place = place }

abbrev pub refused : {A : Type 0} → (kind : Kind) (column place : ℕ) → Result A Wrong
refused kind column place = Err (wrong kind column place)

-- why a column's name names no field
unfoldable pub name_kind : List ℕ → Kind
name_kind name = if length name is 0 then EmptyCell else strange UnknownName name

-- the fields of the columns, behind those of the columns before them
unfoldable pub header_from : List ℕ → List (List ℕ) → Parsed
header_from before [] =
    if not (form one_of before) then refused FormMissing 0 no_place
    else if not (minute one_of before) then refused MinuteMissing 0 no_place
    else Ok before
header_from before (cell ∷ others) =
    let place = field_place (trim cell) in
    let column = length before + 1 in
    let later = header_from (before ++ (place ∷ [])) others in
    if no_place at_most length before then refused TooManyColumns column no_place
    else if place is no_place then refused (name_kind (trim cell)) column no_place
    else if place one_of before then refused RepeatedName column no_place
    else later

-- a table's first line: the place of the field that each column holds
unfoldable pub header_of : List ℕ → Parsed
header_of line = let columns = header_from [] (cells line) in if is_empty line then refused EmptyLine 0 no_place else columns

-- what the code's answer means
abbrev pub columns_of : Result Columns Wrong → Parsed
columns_of (Ok columns) = Ok (take columns.count columns.places)
columns_of (Err wrong) = Err wrong
