-- What is printed of records and of a book.
use Rattle.std.specs.Prelude.{ℕ, ◌+◌, ◌%◌, List, [], ◌∷◌, ◌++◌, ◌≡◌, length}
use Rattle.rulebook.specs.Call.{Result, call_of}
use Rattle.rulebook.specs.Ledger.{Ledger, Holdings}
use Rattle.rulebook.specs.declared.Security.{Security}
use Rattle.book.specs.Meaning.{ledger_of}
use Rattle.book.specs.Stored.{Kept}
use Rattle.file.specs.Records.{records_of}
use Rattle.lines.specs.Lines.{answer_line, custody_line}

-- each record is a call on the book and with the area that the one before it returned; its line has its number
unfoldable pub answer_lines : (number : ℕ) → Ledger → (area : List ℕ) → List (List ℕ) → List ℕ
answer_lines number book area [] = []
answer_lines number book area (octets ∷ rest) =
    let result : Result = call_of book octets area in
    answer_line number result.answer ++ answer_lines (number + 1) result.book result.area rest

unfoldable pub book_after : Ledger → (area : List ℕ) → List (List ℕ) → Ledger
book_after book area [] = book
book_after book area (octets ∷ rest) =
    let result : Result = call_of book octets area in
    book_after result.book result.area rest

unfoldable pub area_after : Ledger → (area : List ℕ) → List (List ℕ) → List ℕ
area_after book area [] = area
area_after book area (octets ∷ rest) =
    let result : Result = call_of book octets area in
    area_after result.book result.area rest

unfoldable pub custody_from : List Security → List ℕ
custody_from [] = []
custody_from (security ∷ rest) = custody_line security ++ custody_from rest

-- per security, in order of admission, with the counts that are kept; `HeldPrinted` says that those held are what accounts hold
unfoldable pub custody_lines : Holdings → List ℕ
custody_lines h = custody_from h.securities

-- what the program prints of a record file, on a book and with an area: the answer lines from a number on, then the custody lines
unfoldable pub printed : (number : ℕ) → Ledger → (area : List ℕ) → (file : List ℕ) → List ℕ
printed number book area file =
    let after : Ledger = book_after book area (records_of file) in
    answer_lines number book area (records_of file) ++ custody_lines after.holdings

-- what it prints of a file that it reads block after block
unfoldable pub printed_in_blocks : (number : ℕ) → Ledger → (area : List ℕ) → (blocks : List (List ℕ)) → List ℕ
printed_in_blocks number book area [] = custody_lines book.holdings
printed_in_blocks number book area (block ∷ rest) =
    let records = records_of block in
    answer_lines number book area records ++ printed_in_blocks (number + length records) (book_after book area records) (area_after book area records) rest

-- the blocks joined; each but the last has whole records
abbrev pub joined : List (List ℕ) → List ℕ
joined [] = []
joined (block ∷ rest) = block ++ joined rest

abbrev pub WholeBlocks : List (List ℕ) → Type 0
WholeBlocks [] = Unit {0}
WholeBlocks (block ∷ []) = Unit {0}
WholeBlocks (block ∷ next ∷ rest) = (length block % 40 ≡ 0) × WholeBlocks (next ∷ rest)

-- what is lent: a book, an area, and a buffer with what was put into it
pub record Lent : Type 0 where
  pub book : List ℕ
  pub area : List ℕ
  pub out : List ℕ

abbrev pub lent : (book area out : List ℕ) → Lent
lent book area out = record { book = book; area = area; out = out }

-- records were called one after the other, and their lines, numbered from a number on, were put into the buffer
pub record Answered (number : ℕ) (records : List (List ℕ)) (before after : Lent) : Type 0 where
  pub kept : Kept after.book
  pub ledger : ledger_of after.book ≡ book_after (ledger_of before.book) before.area records
  pub area : after.area ≡ area_after (ledger_of before.book) before.area records
  pub lines : after.out ≡ before.out ++ answer_lines number (ledger_of before.book) before.area records

-- a file's records were called, and its lines were put into the buffer; the next record's number has moved on by as many
pub record BlockPut (block : List ℕ) (number : ℕ) (before : Lent) (number' : ℕ) (after : Lent) : Type 0 where
  pub answered : Answered number (records_of block) before after
  pub numbered : number' ≡ number + length (records_of block)

-- a file's records were called, from a number on: what the book and the area are after them, and the next record's number
pub record FileCalled (file : List ℕ) (number : ℕ) (book lent : List ℕ) (number' : ℕ) (book' lent' : List ℕ) : Type 0 where
  pub kept : Kept book'
  pub ledger : ledger_of book' ≡ book_after (ledger_of book) lent (records_of file)
  pub area : lent' ≡ area_after (ledger_of book) lent (records_of file)
  pub numbered : number' ≡ number + length (records_of file)
