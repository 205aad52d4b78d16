-- What is proved of the rate (RULES 3.14, 6.18, 8.4, 8.9, 12.18).
use Rattle.std.specs.Prelude.{if◌then◌else◌, ℕ, ◌+◌, ◌*◌, true, List, [], ◌∷◌, ◌≡◌, Ok}
use Rattle.plain.specs.Lists.{◌is◌, ◌one_of◌, first}
use Rattle.rulebook.specs.Ledger.{Ledger, first_rate, fresh, put_rate}
use Rattle.rulebook.specs.Waiting.{single_of, is_deliver, is_receive}
use Rattle.rulebook.specs.Matching.{same_terms, pair_of}
use Rattle.rulebook.specs.Forms.{counts, effect}
use Rattle.rulebook.specs.Refusals.{wrong_day, goes_back, outside_window, refusals}
use Rattle.rulebook.specs.Call.{put_minute, order_call}
use Rattle.rulebook.specs.Calls.{Call, calls_on, book_after, accepted_calls, last_rate}
use Rattle.rulebook.specs.Premise.{Premise}
use Rattle.rulebook.specs.declared.Item.{Item}
use Rattle.rulebook.specs.declared.Order.{Order}

-- RULES 12.18: after every list of calls the rate is that of the last accepted form 18, or the first one
unfoldable pub RateOfCalls : Type 0
RateOfCalls = (calls : List Call) → (book_after fresh calls).rate ≡ last_rate first_rate (accepted_calls (calls_on fresh calls))

-- the deliver and the receive among an instruction that arrives and a single that waits
abbrev pub deliver_of : Order → Item → Item
deliver_of order waits = if order.form is 12 then single_of order else waits

abbrev pub receive_of : Order → Item → Item
receive_of order waits = if order.form is 12 then waits else single_of order

-- an instruction comes to a book in which one single waits, of the other form, that has every term but the amount in common with it
pub record Facing (book : Ledger) (order : Order) (waits : Item) : Type 0 where
  pub instructs : (order.form one_of (12 ∷ 13 ∷ [])) ≡ true
  pub alone : book.waiting ≡ waits ∷ []
  pub delivers : is_deliver (deliver_of order waits).state ≡ true
  pub receives : is_receive (receive_of order waits).state ≡ true
  pub terms : same_terms (deliver_of order waits) (receive_of order waits) ≡ true

-- the two pair if the receive offers just the limit more than the deliver asks, and go on waiting if it offers one more than that
pub record PairsWithin (limit : ℕ) (book : Ledger) (order : Order) (waits : Item) : Type 0 where
  pub equal :
      (receive_of order waits).amount.0 ≡ (deliver_of order waits).amount.0 + limit
      → (effect book order).after.waiting ≡ pair_of (deliver_of order waits) (receive_of order waits) ∷ []
  pub above :
      (receive_of order waits).amount.0 ≡ (deliver_of order waits).amount.0 + limit + 1
      → (effect book order).after.waiting ≡ waits ∷ single_of order ∷ []

-- RULES 8.4, 8.9: in USD the limit is 2,000, in LBP 20 times the rate that the book has when the second of the two arrives, whatever that rate is
unfoldable pub Tolerances : Type 0
Tolerances =
    (book : Ledger) (order : Order) (waits : Item) → Facing book order waits
    → (order.currency ≡ 1 → PairsWithin 2_000 book order waits) × (order.currency ≡ 2 → PairsWithin (20 * book.rate) book order waits)

-- RULES 6.18: an accepted form 18 changes the rate and the last minute, writes nothing and counts nothing
unfoldable pub RateAlone : Type 0
RateAlone =
    (book : Ledger) (order : Order) (area : List ℕ) → order.form ≡ 18 → first (refusals book order) ≡ 0
    → order_call book order area
    ≡ record { answer = Ok (counts 0 0 0 0 0 0); book = put_minute order.minute (put_rate order.quantity.0 book); area = area }

-- RULES 7.6, 7.8, 7.9: of the refusals behind the record's own it meets three
unfoldable pub RateRefusals : Type 0
RateRefusals =
    (book : Ledger) (order : Order) → order.form ≡ 18 → Premise book
    → first (refusals book order) ≡ first ((6, wrong_day book.day order) ∷ (8, goes_back book.day order) ∷ (9, outside_window book.day order) ∷ [])
