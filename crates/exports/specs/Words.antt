-- Calls, reader and writer over the words that a C program lends.
use Rattle.std.specs.Prelude.{if◌then◌else◌, ℕ, List, ◌≡◌, length, take, Ok, Err}
use Rattle.plain.specs.Lists.{◌is_not◌}
use Rattle.rulebook.specs.Record.{read_of, read_number, order_of, written_of, written_number, area_written, fields_of}
use Rattle.rulebook.specs.Call.{call_of, answer_number}
use Rattle.rulebook.specs.Answers.{Answer, Read}
use Rattle.book.specs.Meaning.{book_length, ledger_of}
use Rattle.figures.specs.Figures.{count_figures}
use Rattle.telling.specs.Told.{wrong_book, Lent}
use Rattle.exports.specs.Lent.{wrong_counts, wrong_fields, count_words, field_words}

-- ---- a call

-- the counts of an accepted call; a refused one leaves what was there
unfoldable pub counts_of : Answer → List ℕ → List ℕ
counts_of (Ok c) before = count_figures c
counts_of (Err refusal) before = before

-- lengths are looked at before everything else
unfoldable pub call_number : (book octets area counts : List ℕ) → ℕ
call_number book octets area counts =
    if length book is_not book_length then wrong_book
    else if length counts is_not count_words then wrong_counts
    else answer_number (call_of (ledger_of book) octets area).answer

pub record CalledWith (book octets area counts : List ℕ) (number : ℕ) (book' area' counts' : List ℕ) : Type 0 where
  pub numbered : number ≡ call_number book octets area counts
  -- an accepted call
  pub ledger : number ≡ 0 → ledger_of book' ≡ (call_of (ledger_of book) octets area).book
  pub written : number ≡ 0 → area' ≡ (call_of (ledger_of book) octets area).area
  pub counted : number ≡ 0 → counts' ≡ counts_of (call_of (ledger_of book) octets area).answer counts
  -- any other
  pub untouched : (number ≡ 0 → ⊥) → (book' ≡ book) × (area' ≡ area) × (counts' ≡ counts)
  pub kept : Lent book'

-- ---- the record reader

-- the fields of an order that was read, in the record's order, without the zero bits behind them; a refusal leaves what was there
unfoldable pub fields_read : Read → List ℕ → List ℕ
fields_read (Ok order) before = take field_words (fields_of order)
fields_read (Err refusal) before = before

unfoldable pub reading_number : (octets fields : List ℕ) → ℕ
reading_number octets fields = if length fields is_not field_words then wrong_fields else read_number (read_of octets)

pub record ReadInto (octets fields : List ℕ) (number : ℕ) (fields' : List ℕ) : Type 0 where
  pub numbered : number ≡ reading_number octets fields
  pub told : number ≡ 0 → fields' ≡ fields_read (read_of octets) fields
  pub untouched : (number ≡ 0 → ⊥) → fields' ≡ fields

-- ---- the record writer

unfoldable pub writing_number : (fields area : List ℕ) → ℕ
writing_number fields area = if length fields is_not field_words then wrong_fields else written_number (written_of (order_of fields) area)

pub record WrittenFrom (fields area : List ℕ) (number : ℕ) (area' : List ℕ) : Type 0 where
  pub numbered : number ≡ writing_number fields area
  pub written : number ≡ 0 → area' ≡ area_written (order_of fields) area
  pub untouched : (number ≡ 0 → ⊥) → area' ≡ area
