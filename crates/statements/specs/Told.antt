-- A statement tells the rows of the rulebook's effects: nothing of it depends on bytes.
use Rattle.std.specs.Prelude.{ℕ, ◌+◌, List, [], ◌∷◌, ◌++◌, ◌≡◌, Ok, Err}
use Rattle.rulebook.specs.Call.{Result, call_of}
use Rattle.rulebook.specs.Forms.{effect}
use Rattle.rulebook.specs.Ledger.{Ledger, fresh}
use Rattle.rulebook.specs.Record.{read_of}
use Rattle.rulebook.specs.Rows.{Row}
use Rattle.rulebook.specs.Answers.{Answer, Read}
use Rattle.file.specs.Records.{records_of}
use Rattle.statement_lines.specs.Lines.{lines_of, answer_line}
use Rattle.statements.specs.Stated.{form_in, statement_lines}

-- the rows of a call: those of its order's effect where it is accepted, and else none
unfoldable pub rows_of : Ledger → Read → Answer → List Row
rows_of book (Ok order) (Ok counts) = (effect book order).rows
rows_of book (Ok order) (Err refusal) = []
rows_of book (Err refusal) answer = []

-- what the rulebook has to tell of records that are called one after the other
unfoldable pub told_lines : (number : ℕ) → Ledger → (area : List ℕ) → List (List ℕ) → List ℕ
told_lines number book area [] = []
told_lines number book area (octets ∷ rest) =
    let result : Result = call_of book octets area in
    answer_line number (form_in (read_of octets)) result.answer ++ lines_of (rows_of book (read_of octets) result.answer)
    ++ told_lines (number + 1) result.book result.area rest

-- of every record file, on the fresh book and with any area
unfoldable pub Told : Type 0
Told = (number : ℕ) (area file : List ℕ) → statement_lines number fresh area (records_of file) ≡ told_lines number fresh area (records_of file)
