-- One call: a record and a lent area, on a book (RULES 1.3 to 1.11).
use Rattle.std.specs.Prelude.{if◌then◌else◌, ℕ, ◌*◌, Bool, List, ◌++◌, length, drop, Ok, Err}
use Rattle.plain.specs.Lists.{◌is◌, ◌below◌, first}
use Rattle.rulebook.specs.Ledger.{Ledger, put_day, with_minute}
use Rattle.rulebook.specs.Record.{read_of}
use Rattle.rulebook.specs.Rows.{rows_bytes}
use Rattle.rulebook.specs.Forms.{Outcome, effect}
use Rattle.rulebook.specs.Refusals.{refusals}
use Rattle.rulebook.specs.declared.Order.{Order}
use Rattle.rulebook.specs.Answers.{Read, Answer, refusal_of, number_in}
use Rattle.rulebook.specs.declared.Refusal.{Refusal}

-- answer, book and area after a call
pub record Result : Type 0 where
  pub answer : Answer
  pub book : Ledger
  pub area : List ℕ

-- RULES 1.7: an answer as a number
unfoldable pub answer_number : Answer → ℕ
answer_number answer = number_in answer

-- the rows that an answer counts: none where the call was refused
unfoldable pub answer_rows : Answer → ℕ
answer_rows (Ok counts) = counts.rows
answer_rows (Err refusal) = 0

-- RULES 1.11: a refusal changes neither book nor area
unfoldable pub refused : Refusal → Ledger → List ℕ → Result
refused refusal book area = record { answer = Err refusal; book = book; area = area }

-- RULES 4.6
unfoldable pub put_minute : ℕ → Ledger → Ledger
put_minute minute book = put_day (with_minute minute book.day) book

-- RULES 1.8, 11.1, 11.2: the counts, and the rows at the area's start
unfoldable pub accepted : Outcome → ℕ → List ℕ → Result
accepted outcome minute area = record {
  answer = Ok outcome.counts;
  book = put_minute minute outcome.after;
  area = rows_bytes outcome.rows ++ drop (16 * length outcome.rows) area;
}

-- RULES 1.9: an order that was read is put to the book
unfoldable pub order_call : Ledger → Order → List ℕ → Result
order_call book order area =
    let refusal = first (refusals book order) in
    if refusal is 0 then accepted (effect book order) order.minute area else refused (refusal_of refusal) book area

-- RULES 1.10
unfoldable pub read_call : Ledger → Read → List ℕ → Result
read_call book (Ok order) area = order_call book order area
read_call book (Err refusal) area = refused refusal book area

-- RULES 7.1
abbrev pub short_area : List ℕ → Bool
short_area area = length area below 4_096

unfoldable pub call_of : Ledger → List ℕ → List ℕ → Result
call_of book bytes area = if short_area area then refused Refusal.ShortArea book area else read_call book (read_of bytes) area
