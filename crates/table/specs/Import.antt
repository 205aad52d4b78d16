-- A whole table: its orders, or its first refusal.
use Rattle.std.specs.Prelude.{if◌then◌else◌, ℕ, Bool, true, false, List, [], ◌∷◌, ◌++◌, take, drop, Ok, Err}
use Rattle.text.specs.Parts.{same_text}
use Rattle.cells.specs.declared.kind.Kind.TheVariants.{NoHeader}
use Rattle.cells.specs.Cells.{lines_of, full_lines}
use Rattle.table.specs.Header.{no_place, Parsed, header_of}
use Rattle.table.specs.Lines.{Imported, in_line, refused_at, rows_from, records_of}
use Rattle.table.specs.Lines.Imported.{refused_as, orders}

-- the byte-order mark that some programs write before a text
unfoldable pub mark : List ℕ
mark = 0xEF ∷ 0xBB ∷ 0xBF ∷ []

unfoldable pub unmarked : List ℕ → List ℕ
unmarked file = if same_text (take 3 file) mark then drop 3 file else file

-- go on with the columns of the first line, or refuse the table
unfoldable pub with_columns : Parsed → (List ℕ → Imported) → Imported
with_columns (Err wrong) next = refused_as (in_line 1 wrong)
with_columns (Ok places) next = next places

-- the first line names the columns, each further line is one order; empty lines at the end are passed over
unfoldable pub import_lines : List (List ℕ) → Imported
import_lines [] = refused_at NoHeader 1 0 no_place
import_lines (header ∷ others) = with_columns (header_of header) (λ places. rows_from places 2 (full_lines others))

unfoldable pub import_of : List ℕ → Imported
import_of file = import_lines (lines_of (unmarked file))

-- what is written for a table: the records of its orders; nothing where it is refused
unfoldable pub written : Imported → List ℕ
written (refused_as why) = []
written (orders all) = records_of all

unfoldable pub is_refused : Imported → Bool
is_refused (refused_as why) = true
is_refused (orders all) = false

-- rows, and those of the lines behind them
unfoldable pub and_then : Imported → Imported → Imported
and_then (refused_as why) later = refused_as why
and_then (orders all) (refused_as why) = refused_as why
and_then (orders all) (orders others) = orders (all ++ others)
