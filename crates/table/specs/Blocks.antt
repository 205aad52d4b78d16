-- A table that is read in blocks: what is known behind the lines read so far.
use Rattle.std.specs.Prelude.{if◌then◌else◌, ℕ, ◌+◌, ◌-◌, ◌*◌, List, [], ◌∷◌, ◌++◌, length, is_none, Option, Some, None, Result, Ok, Err}
use Rattle.rulebook.specs.declared.Order.{Order}
use Rattle.cells.specs.declared.kind.Kind.TheVariants.{EmptyLine}
use Rattle.cells.specs.Cells.{is_empty, tail_of}
use Rattle.table.specs.Header.{no_place, wrong}
use Rattle.table.specs.Lines.{row_of, row_written, Imported, in_line}
use Rattle.table.specs.Lines.Imported.{refused_as, orders}
use Rattle.table.specs.declared.Checked.{Checked}
use Rattle.table.specs.declared.Refused.{Refused}
use Rattle.table.specs.declared.Step.{Step}
use Rattle.table.specs.declared.Wrong.{Wrong}

-- a walk over lines stopped at a refusal, or reached the line with a number, where the line `empty` is the first of the empty lines just before it;
-- and the orders that it met
pub data Walked : Type 0 where
  stopped : Refused → List Order → Walked
  reached : (line : ℕ) (empty : Option ℕ) → List Order → Walked

-- orders met before
unfoldable pub having : List Order → Walked → Walked
having met (stopped why others) = stopped why (met ++ others)
having met (reached line empty others) = reached line empty (met ++ others)

unfoldable pub walk_row : Result Order Wrong → (line : ℕ) → Walked → Walked
walk_row (Ok order) line later = having (order ∷ []) later
walk_row (Err wrong) line later = stopped (in_line line wrong) []

-- the first of the empty lines, with one more
abbrev pub first_empty : (empty : Option ℕ) (line : ℕ) → Option ℕ
first_empty None line = Some line
first_empty (Some empty) line = Some empty

-- why an empty line is refused
abbrev pub empty_line_at : ℕ → Refused
empty_line_at line = in_line line (wrong EmptyLine 0 no_place)

-- a line that is not empty: there must be no empty line just before it
abbrev pub unless_empty : Option ℕ → Walked → Walked
unless_empty None walked = walked
unless_empty (Some empty) walked = stopped (empty_line_at empty) []

-- lines from a number on: empty lines are passed over as long as nothing else comes behind them
unfoldable pub walk : List ℕ → (line : ℕ) (empty : Option ℕ) → List (List ℕ) → Walked
walk places line empty [] = reached line empty []
walk places line empty (text ∷ others) =
    let passed = walk places (line + 1) (first_empty empty line) others in
    let row = walk_row (row_of places text) line (walk places (line + 1) None others) in
    if is_empty text then passed else unless_empty empty row

-- and the lines of the next block, from what was reached on
unfoldable pub onward : Walked → ((line : ℕ) (empty : Option ℕ) → Walked) → Walked
onward (stopped why met) next = stopped why met
onward (reached line empty met) next = having met (next line empty)

-- what a table says where its lines end here
unfoldable pub outcome : Walked → Imported
outcome (stopped why met) = refused_as why
outcome (reached line empty met) = orders met

unfoldable pub met_in : Walked → List Order
met_in (stopped why met) = met
met_in (reached line empty met) = met

-- how many bytes of a block the lines take that end in it
unfoldable pub used_of : List ℕ → ℕ
used_of block = length block - length (tail_of block)

-- the code's answer: the refusal, or the bytes used, what was reached, and the bytes written
unfoldable pub checked_as : (used : ℕ) → Walked → Result Checked Refused
checked_as used (stopped why met) = Err why
checked_as used (reached line empty met) = Ok (record { used = used; line = line; empty = empty; wrote = 40 * length met })

-- ---- one line

unfoldable pub step_row : Result Order Wrong → (line : ℕ) → Result Step Refused
step_row (Ok order) line = Ok (record { empty = None; wrote = 40 })
step_row (Err wrong) line = Err (in_line line wrong)

abbrev pub step_unless : Option ℕ → Result Step Refused → Result Step Refused
step_unless None step = step
step_unless (Some empty) step = Err (empty_line_at empty)

-- what a line with a number does to a walk
unfoldable pub step_of : List ℕ → (line : ℕ) (empty : Option ℕ) → List ℕ → Result Step Refused
step_of places line empty text =
    let row = step_row (row_of places text) line in
    if is_empty text then Ok (record { empty = first_empty empty line; wrote = 0 }) else step_unless empty row

-- and to a buffer
unfoldable pub step_written : List ℕ → (empty : Option ℕ) → List ℕ → List ℕ → List ℕ
step_written places empty text out =
    let row = row_written (row_of places text) out in
    if is_empty text then out else if is_none empty then row else out
