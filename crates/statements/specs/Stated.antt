-- What a statement prints of records that are called one after the other, and how far a buffer was filled with it.
use Rattle.std.specs.Prelude.{ℕ, ◌+◌, ◌≤◌, ◌<◌, List, [], ◌∷◌, ◌++◌, ◌≡◌, length, drop, replicate, Ok, Err}
use Rattle.rulebook.specs.Call.{Result, answer_rows, call_of}
use Rattle.rulebook.specs.Forms.{row_of}
use Rattle.rulebook.specs.Ledger.{Ledger, fresh}
use Rattle.rulebook.specs.Record.{read_of}
use Rattle.rulebook.specs.Answers.{Read}
use Rattle.book.specs.Meaning.{ledger_of}
use Rattle.book.specs.Stored.{Kept}
use Rattle.file.specs.Records.{records_of}
use Rattle.printing.specs.Printed.{book_after, area_after, Lent}
use Rattle.statement_lines.specs.Lines.{row_lines, answer_line}
use Rattle.statements.specs.declared.calls.Part.{Part}

-- the form of a record that reads; 0 where it does not
unfoldable pub form_in : Read → ℕ
form_in (Ok order) = order.form
form_in (Err refusal) = 0

-- RULES 17.2: of a call, its answer and the rows that the answer counts; by the form these are posting rows or notices
unfoldable pub call_lines : (number : ℕ) → (octets : List ℕ) → Result → List ℕ
call_lines number octets result =
    let form = form_in (read_of octets) in
    answer_line number form result.answer ++ row_lines (row_of form).posts (answer_rows result.answer) result.area

-- each record is a call on the book and with the area that the one before it returned; its lines begin with its number
unfoldable pub statement_lines : (number : ℕ) → Ledger → (area : List ℕ) → List (List ℕ) → List ℕ
statement_lines number book area [] = []
statement_lines number book area (octets ∷ rest) =
    let result : Result = call_of book octets area in
    call_lines number octets result ++ statement_lines (number + 1) result.book result.area rest

-- RULES 17.1: of a record file, on the fresh book
unfoldable pub statement : (file : List ℕ) → List ℕ
statement file = statement_lines 1 fresh (replicate 4_096 0) (records_of file)

-- more bytes than the lines of one record: 512 for its answer, and 512 for each of 256 rows
abbrev pub RECORD : ℕ
RECORD = 131_584

-- records were called one after the other, and their lines, numbered from a number on, were put into the buffer
pub record Stated (number : ℕ) (records : List (List ℕ)) (before after : Lent) : Type 0 where
  pub kept : Kept after.book
  pub ledger : ledger_of after.book ≡ book_after (ledger_of before.book) before.area records
  pub area : after.area ≡ area_after (ledger_of before.book) before.area records
  pub lines : after.out ≡ before.out ++ statement_lines number (ledger_of before.book) before.area records

-- the first records of a file were called, as many as surely had room in the buffer of N bytes
pub record PartPut (N : ℕ) (file : List ℕ) (number : ℕ) (before : Lent) (part : Part) (after : Lent) : Type 0 where
  pub records : List (List ℕ)
  -- the others are those of the bytes behind them
  pub met : records ++ records_of (drop part.size file) ≡ records_of file
  pub inside : part.size ≤ length file
  pub stated : Stated number records before after
  pub numbered : part.number ≡ number + length records
  -- they end before the file only where the next record's lines might not fit
  pub full : part.size < length file → N < length after.out + RECORD

-- records were called one after the other, from a number on. Behind the bytes that waited in the buffer come their lines: the first of all these bytes have
-- left the buffer (`printed`), and the rest waits in it. That the system wrote what left it no contract can say
pub record RecordsStated (records : List (List ℕ)) (number : ℕ) (book lent waiting : List ℕ) (number' : ℕ) (book' lent' waiting' : List ℕ) : Type 0 where
  pub kept : Kept book'
  pub ledger : ledger_of book' ≡ book_after (ledger_of book) lent records
  pub area : lent' ≡ area_after (ledger_of book) lent records
  pub numbered : number' ≡ number + length records
  pub printed : List ℕ
  pub lines : printed ++ waiting' ≡ waiting ++ statement_lines number (ledger_of book) lent records
