-- What is proved of cycles that are sent and answered (RULES 6.21, 12.27 to 12.31, 12.33).
use Rattle.std.specs.Prelude.{if◌then◌else◌, ℕ, zero, suc, ◌+◌, ◌-◌, ◌≤◌, Bool, true, false, not, ◌&&◌, List, [], ◌∷◌, ◌++◌, map, ◌≡◌, length, Ok, Err}
use Rattle.plain.specs.Lists.{◌is◌, ◌below◌, some, first, keep, Each}
use Rattle.rulebook.specs.Ledger.{Ledger, Holdings, put_day, put_waiting, cycle_answered}
use Rattle.rulebook.specs.Movements.{account, type91, move, booked}
use Rattle.rulebook.specs.Windows.{cycle_minutes, office_end}
use Rattle.rulebook.specs.Rows.{posting_rows}
use Rattle.rulebook.specs.Waiting.{sides}
use Rattle.rulebook.specs.Shortfall.{NothingShort}
use Rattle.rulebook.specs.Selection.{trades_in, due, selection}
use Rattle.rulebook.specs.Selected.{SomethingShort}
use Rattle.rulebook.specs.Cycle.{legs, fixed, settled, declined, offers}
use Rattle.rulebook.specs.Forms.{effect, confirm}
use Rattle.rulebook.specs.Record.{read_of}
use Rattle.rulebook.specs.Refusals.{wrong_day, nothing_sent, goes_back, outside_window, refusals}
use Rattle.rulebook.specs.Call.{Result, put_minute}
use Rattle.rulebook.specs.Calls.{Call, result_of, calls_on, book_after, Accepted, accepted_calls}
use Rattle.rulebook.specs.Premise.{Premise}
use Rattle.rulebook.specs.Desk.{runs, answers, closes, send}
use Rattle.rulebook.specs.declared.Account.{Account}
use Rattle.rulebook.specs.Answers.{Answer}
use Rattle.rulebook.specs.declared.Day.{Day}
use Rattle.rulebook.specs.declared.Item.{Item}
use Rattle.rulebook.specs.declared.Order.{Order}

-- an accepted call that answers a cycle
abbrev pub answers_cycle : Accepted → Bool
answers_cycle c = c.order.form is 21

-- RULES 12.27: over every list of calls in which none answers it, a cycle stays sent, and its fixed trades stay the same, in the same order
unfoldable pub FixedStays : Type 0
FixedStays =
    (book : Ledger) (calls : List Call) → Premise book → book.day.sent ≡ true → some answers_cycle (accepted_calls (calls_on book calls)) ≡ false
    → ((book_after book calls).day.sent ≡ true) × (settled (book_after book calls) ≡ settled book)

-- an item that is due and not fixed
abbrev pub is_out : (day : ℕ) → Item → Bool
is_out day item = due day item && not item.sent

-- RULES 12.33: of a book on which a cycle is sent, and of its waiting items as sending leaves them
pub record NothingLeftFits (book : Ledger) (waiting : List Item) : Type 0 where
  -- with those fixed nothing is short: no account at all, and no member's cash
  pub covered : NothingShort book.holdings (fixed waiting)
  -- and no other that is due fits beside them: with any one more, some account or some member's cash misses something
  pub unfit : Each (λ item. is_out book.day.number item ≡ true → SomethingShort book.holdings (fixed waiting ++ item ∷ [])) waiting

-- and how many these are is what the call counts as left
unfoldable pub LeftUnfit : Type 0
LeftUnfit =
    (book : Ledger) (o : Order) → o.form ≡ 16
    → NothingLeftFits book (effect book o).after.waiting
    × ((effect book o).counts.left ≡ length (keep (is_out book.day.number) (effect book o).after.waiting))

-- RULES 12.28: what a confirmation books and writes on a later book is what the cycle selected when it was sent
pub record AsSent (book later : Ledger) : Type 0 where
  pub rows : (confirm later).rows ≡ posting_rows (legs (trades_in (selection book)))
  pub holdings : (confirm later).after.holdings ≡ booked (legs (trades_in (selection book))) later.holdings
  pub sides : (confirm later).counts.settled ≡ sides (trades_in (selection book))

-- a form 16 is accepted on a book, then come calls of which none answers it
unfoldable pub ConfirmedAsSent : Type 0
ConfirmedAsSent =
    (book : Ledger) (o : Order) (bytes : List ℕ) (calls : List Call) → Premise book → read_of bytes ≡ Ok o → o.form ≡ 16
    → first (refusals book o) ≡ 0
    → some answers_cycle (accepted_calls (calls_on (put_minute o.minute (effect book o).after) calls)) ≡ false
    → AsSent book (book_after (put_minute o.minute (effect book o).after) calls)

-- RULES 6.21: an answer meets refusals 6, 23, 8 and 9 alone, behind the record's own
unfoldable pub AnswerRefusals : Type 0
AnswerRefusals =
    (book : Ledger) (order : Order) → Premise book → order.form ≡ 21
    → first (refusals book order)
    ≡ first ((6, wrong_day book.day order) ∷ (23, nothing_sent book.day order) ∷ (8, goes_back book.day order) ∷ (9, outside_window book.day order) ∷ [])

-- a book with no cycle sent and nothing fixed, and all else as it is
abbrev pub unsent : Ledger → Ledger
unsent book = put_day (cycle_answered book.day) (put_waiting (declined book.waiting) book)

-- the calls of a list that are accepted, in order
unfoldable pub is_accepted : Answer → Bool
is_accepted (Ok counts) = true
is_accepted (Err refusal) = false

unfoldable pub only_accepted : Ledger → List Call → List Call
only_accepted book [] = []
only_accepted book (c ∷ rest) =
    let result : Result = result_of book c in
    let later = only_accepted result.book rest in
    if is_accepted result.answer then c ∷ later else later

-- the day with one cycle more that has run
abbrev pub one_more_run : Day → Day
one_more_run day = record { opened = day.opened; number = day.number; kind = day.kind; cycles = day.cycles + 1; minute = day.minute; sent = day.sent }

-- RULES 12.29: a declined cycle leaves everything as if it had not been sent, but for cycles run and the minute
pub record DeclinedAsUnsent : Type 0 where
  -- what a decline leaves
  pub declines :
      (book : Ledger) (o : Order) → o.form ≡ 21 → (o.quantity.0 is 1) ≡ false → (effect book o).after ≡ unsent book
  -- it takes back all that sending did, but that the cycle has run
  pub sends :
      (book : Ledger) (o : Order) → Premise book → book.day.sent ≡ false → o.form ≡ 16
      → unsent (effect book o).after ≡ put_day (one_more_run book.day) book
  -- and what others did in between they would have done the same without it
  pub between :
      (book : Ledger) (o : Order) (bytes : List ℕ) → Premise book → book.day.sent ≡ true → read_of bytes ≡ Ok o
      → (o.form is 21) ≡ false → first (refusals book o) ≡ 0
      → ((effect (unsent book) o).after ≡ unsent (effect book o).after) × ((effect (unsent book) o).rows ≡ (effect book o).rows)
      × ((effect (unsent book) o).counts ≡ (effect book o).counts) × (first (refusals (unsent book) o) ≡ 0)
  -- over every list of calls in which none answers it: those that are accepted would have led to the same book
  pub meanwhile :
      (book : Ledger) (calls : List Call) → Premise book → book.day.sent ≡ true → some answers_cycle (accepted_calls (calls_on book calls)) ≡ false
      → unsent (book_after book calls) ≡ book_after (unsent book) (only_accepted book calls)

-- RULES 12.30: what an account offers is exactly the most that can leave it with nothing short over what is fixed
unfoldable pub OfferExact : Type 0
OfferExact =
    (book : Ledger) (security : ℕ) (a : Account) (n : ℕ) → Premise book → n ≤ book.holdings.balance a
    → let after : Holdings = booked (move (account a) (type91 security) n ∷ []) book.holdings in
    (n ≤ offers book.holdings book.waiting a → NothingShort after (fixed book.waiting))
    × (NothingShort after (fixed book.waiting) → n ≤ offers book.holdings book.waiting a)

-- RULES 12.31: what is left of a day: the answer to the cycle that is sent, each cycle that is still to run with its answer, the close
abbrev pub cycles_left : Day → ℕ
cycles_left day = length (cycle_minutes day.kind) - day.cycles

unfoldable pub cycles_to_run : (minute number : ℕ) → List Order
cycles_to_run minute zero = []
cycles_to_run minute (suc more) = runs minute ∷ answers minute 1 ∷ cycles_to_run minute more

-- at the end of the office, or at the last minute where that has passed it
unfoldable pub last_minute : Day → ℕ
last_minute day = if office_end day.kind below day.minute then day.minute else office_end day.kind

unfoldable pub finishing : Day → List Order
finishing day =
    (if day.sent then answers (last_minute day) 1 ∷ [] else [])
    ++ (cycles_to_run (last_minute day) (cycles_left day) ++ (closes (last_minute day) ∷ []))

-- from every book with an open day that calls can lead to, these close it: a day can always be finished
unfoldable pub DayFinishes : Type 0
DayFinishes =
    (book : Ledger) → Premise book → book.day.opened ≡ true → (book_after book (map send (finishing book.day))).day.opened ≡ false
