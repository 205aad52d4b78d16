-- What is proved of requests for paper (RULES 6.19, 6.20, 12.20 to 12.23).
use Rattle.std.specs.Prelude.{ℕ, ◌≤◌, ◌<◌, Bool, true, false, ◌&&◌, List, [], ◌∷◌, ◌≡◌, length}
use Rattle.plain.specs.Lists.{◌is◌, some, first}
use Rattle.rulebook.specs.TypeTable.{requested, on_paper_as}
use Rattle.rulebook.specs.AccountTypes.{is_outside, become}
use Rattle.rulebook.specs.Ledger.{Ledger, fresh, request_account, asked_of}
use Rattle.rulebook.specs.Record.{record_of}
use Rattle.rulebook.specs.Forms.{ended_request}
use Rattle.rulebook.specs.Refusals.{wrong_day, goes_back, outside_window, wrong_security, wrong_pair, wrong_request, ends_too_soon, too_many_requests, too_little, no_space, refusals}
use Rattle.rulebook.specs.Call.{answer_number, call_of}
use Rattle.rulebook.specs.Calls.{Call, calls_on, book_after, Accepted, accepted_calls}
use Rattle.rulebook.specs.Premise.{Premise}
use Rattle.rulebook.specs.declared.Account.{Account}
use Rattle.rulebook.specs.declared.Order.{Order}

-- RULES 12.20: after every list of calls an account of type 50 has what its open requests ask for, and nothing else
unfoldable pub AwaitedOfCalls : Type 0
AwaitedOfCalls =
    (calls : List Call) (a : Account) → a.typ ≡ requested → (book_after fresh calls).holdings.balance a ≡ asked_of a (book_after fresh calls).requests

-- RULES 12.21: so an ending never lacks balance
unfoldable pub EndingCovered : Type 0
EndingCovered =
    (book : Ledger) (order : Order) → Premise book
    → (ended_request book order).quantity.0 ≤ book.holdings.balance (request_account requested order.debited.member (ended_request book order))

-- an accepted call that ends the request of a member and a reference
abbrev pub ends_request : (member reference : ℕ) → Accepted → Bool
ends_request member reference c = c.order.form is 20 && c.order.debited.member is member && c.order.reference is reference

-- RULES 12.22: an open request stays as it is over every list of calls in which none ends it
unfoldable pub RequestStays : Type 0
RequestStays =
    (book : Ledger) (calls : List Call) (member reference : ℕ) → 1 ≤ (book.requests.asked member reference).quantity.0
    → some (ends_request member reference) (accepted_calls (calls_on book calls)) ≡ false
    → (book_after book calls).requests.asked member reference ≡ book.requests.asked member reference

-- the order that ends a request, at minute 510
abbrev pub ending : (member reference credited : ℕ) → Order
ending member reference credited = record {
  form = 20;
  minute = 510;
  security = 0;
  currency = 0;
  debited = record { member = member; typ = 0; shareholder = 0 };
  credited = record { member = 0; typ = credited; shareholder = 0 };
  quantity = record { 0 = 0 };
  amount = record { 0 = 0 };
  trade_day = 0;
  settlement_day = 0;
  reference = reference;
  operation = 0;
  original = 0;
  edition = 0;
}

-- a day is open, it is not past 510, and the request is of an earlier day
pub record LaterDay (book : Ledger) (member reference : ℕ) : Type 0 where
  pub opened : book.day.opened ≡ true
  pub early : book.day.minute ≤ 510
  pub some : 1 ≤ (book.requests.asked member reference).quantity.0
  pub older : (book.requests.asked member reference).day < book.day.number

abbrev pub EndingAccepted : (book : Ledger) (member reference credited : ℕ) → (area : List ℕ) → Type 0
EndingAccepted book member reference credited area = answer_number (call_of book (record_of (ending member reference credited)) area).answer ≡ 0

-- RULES 12.23: a request can be ended on every later day: to the type outside always, and to its paper's type where there is room
unfoldable pub RequestEnds : Type 0
RequestEnds =
    (book : Ledger) (member reference : ℕ) (area : List ℕ) → Premise book → LaterDay book member reference → 4_096 ≤ length area
    → ((credited : ℕ) → is_outside credited ≡ true → EndingAccepted book member reference credited area)
    × ((credited : ℕ) → become on_paper_as (book.requests.asked member reference).typ credited ≡ true → no_space book (ending member reference credited) ≡ false
    → EndingAccepted book member reference credited area)

-- RULES 6.19, 6.20: the refusals that each of the two forms meets, behind the record's own
unfoldable pub RequestRefusals : Type 0
RequestRefusals =
    (book : Ledger) (order : Order) → order.form ≡ 19
    → first (refusals book order)
    ≡ first (
    (6, wrong_day book.day order)
    ∷ (8, goes_back book.day order)
    ∷ (9, outside_window book.day order)
    ∷ (10, wrong_security book.holdings order)
    ∷ (11, wrong_pair order)
    ∷ (19, wrong_request book.requests order)
    ∷ (21, too_many_requests book.requests order)
    ∷ (16, too_little book.holdings book.waiting order)
    ∷ (18, no_space book order)
    ∷ [])

unfoldable pub EndingRefusals : Type 0
EndingRefusals =
    (book : Ledger) (order : Order) → order.form ≡ 20
    → first (refusals book order)
    ≡ first (
    (6, wrong_day book.day order)
    ∷ (8, goes_back book.day order)
    ∷ (9, outside_window book.day order)
    ∷ (11, wrong_pair order)
    ∷ (19, wrong_request book.requests order)
    ∷ (20, ends_too_soon book.day.number book.requests order)
    ∷ (18, no_space book order)
    ∷ [])
