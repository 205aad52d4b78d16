-- The forms: what each does to the book, with its rows and its counts, and the table that says everything of a form.
use Rattle.std.specs.Prelude.{if◌then◌else◌, ℕ, zero, suc, Bool, true, false, not, List, [], ◌∷◌, ◌++◌, map, length, get_or}
use Prim.Native.String.{String}
use Rattle.plain.specs.Lists.{◌is◌, keep, some}
use Rattle.rulebook.specs.Field.{Rule, from1, from1_to, always, rule_in, D, C, all, all_but, security, currency, debited_member, debited_type, credited_member, credited_type, quantity, amount, settlement_day, reference}
use Rattle.rulebook.specs.TypeTable.{requested}
use Rattle.rulebook.specs.AccountTypes.{is_outside}
use Rattle.rulebook.specs.Ledger.{Ledger, Requests, no_request, account_of, request_account, put_day, put_holdings, put_waiting, put_rate, put_requests, put_request, put_securities, cycle_sent, cycle_answered, opening, closing, new_security}
use Rattle.rulebook.specs.declared.Day.{Day}
use Rattle.rulebook.specs.Windows.{Window, opening_hours, counter_hours, office_hours, payment_hours, cycle_hours, answer_hours, closing_hours}
use Rattle.rulebook.specs.Movements.{Place, account, type90, type91, cash_of, member0, Movement, move, booked}
use Rattle.rulebook.specs.Rows.{Row, notice, notice_of, posting_rows}
use Rattle.rulebook.specs.Waiting.{item_of, single_of, sides, sender_of, marking, cancelled, staying, unmarked}
use Rattle.rulebook.specs.Matching.{tolerance, arrive}
use Rattle.rulebook.specs.Selection.{selection}
use Rattle.rulebook.specs.Cycle.{left_by, fixing, settled, not_settled, declined, legs}
use Rattle.rulebook.specs.Close.{deleted_at_close, suspended_at_close, leaves, close_notice}
use Rattle.rulebook.specs.declared.Order.{Order}
use Rattle.rulebook.specs.declared.Item.{Item}
use Rattle.rulebook.specs.declared.Counts.{Counts}
use Rattle.rulebook.specs.declared.Request.{Request}
use Rattle.rulebook.specs.declared.State.TheVariants.{Trade}

pub record Outcome : Type 0 where
  pub after : Ledger
  pub rows : List Row
  pub counts : Counts

-- RULES 1.8
unfoldable pub counts : (rows settled cancelled deleted suspended left : ℕ) → Counts
counts rows settled cancelled deleted suspended left =
    record { rows = rows; settled = settled; cancelled = cancelled; deleted = deleted; suspended = suspended; left = left }

unfoldable pub outcome : Ledger → List Row → (settled cancelled deleted suspended left : ℕ) → Outcome
outcome after rows settled cancelled deleted suspended left =
    record { after = after; rows = rows; counts = counts (length rows) settled cancelled deleted suspended left }

-- no sides gone; sides settled, and trades left; sides cancelled; sides deleted, and suspended
abbrev pub plain : Ledger → List Row → Outcome
plain after rows = outcome after rows 0 0 0 0 0

abbrev pub settles : (settled left : ℕ) → Ledger → List Row → Outcome
settles settled left after rows = outcome after rows settled 0 0 0 left

abbrev pub cancels : (cancelled : ℕ) → Ledger → List Row → Outcome
cancels cancelled after rows = outcome after rows 0 cancelled 0 0 0

abbrev pub removes : (deleted suspended : ℕ) → Ledger → List Row → Outcome
removes deleted suspended after rows = outcome after rows 0 0 deleted suspended 0

-- a form that only moves shares or cash
unfoldable pub moving : List Movement → Ledger → Outcome
moving movements book = plain (put_holdings (booked movements book.holdings) book) (posting_rows movements)

-- a form that writes no rows
unfoldable pub silent : Ledger → Outcome
silent after = plain after []

-- RULES 6.1: the next day opens, of the kind that the quantity says, with no cycle run
unfoldable pub open_day : Ledger → Order → Outcome
open_day book order = silent (put_day (opening order.quantity.0 book.day) book)

-- RULES 6.2: the issue moves from 90 to 91, so that issued and outside both become the quantity; the movement brings the outside count
unfoldable pub admit : Ledger → Order → Outcome
admit book order =
    moving (move (type90 order.security) (type91 order.security) order.quantity.0 ∷ [])
    (put_holdings (put_securities (book.holdings.securities ++ (new_security order.security order.quantity ∷ [])) book.holdings) book)

-- RULES 6.3: from 91 to the credited account
unfoldable pub deposit : Ledger → Order → Outcome
deposit book order = moving (move (type91 order.security) (account (account_of order.security order.credited)) order.quantity.0 ∷ []) book

-- RULES 6.4: from the debited account to 91
unfoldable pub withdraw : Ledger → Order → Outcome
withdraw book order = moving (move (account (account_of order.security order.debited)) (type91 order.security) order.quantity.0 ∷ []) book

-- RULES 6.5 to 6.9: from the debited account to the credited one
unfoldable pub transfer : Ledger → Order → Outcome
transfer book order =
    moving
    (move (account (account_of order.security order.debited)) (account (account_of order.security order.credited)) order.quantity.0 ∷ [])
    book

-- RULES 6.10: from member 0 to the credited member
unfoldable pub pay_in : Ledger → Order → Outcome
pay_in book order = moving (move (member0 order.currency) (cash_of order.credited.member order.currency) order.amount.0 ∷ []) book

-- RULES 6.11: from the debited member to member 0
unfoldable pub pay_out : Ledger → Order → Outcome
pay_out book order = moving (move (cash_of order.debited.member order.currency) (member0 order.currency) order.amount.0 ∷ []) book

-- RULES 6.12 and 6.13: pairs with the first waiting single of the other form, by the rate that the book has now, or goes last
unfoldable pub instruct : Ledger → Order → Outcome
instruct book order = silent (put_waiting (arrive (tolerance book.rate order.currency) (single_of order) book.waiting) book)

-- RULES 6.14: goes last
unfoldable pub trade : Ledger → Order → Outcome
trade book order = silent (put_waiting (book.waiting ++ (item_of (Trade order.reference) order ∷ [])) book)

-- RULES 6.15: the sender's half is marked; with the second half the pair leaves, with a notice
unfoldable pub cancel : Ledger → Order → Outcome
cancel book order =
    cancels (sides (cancelled now)) (put_waiting (staying now) book) (map (λ item. notice (notice_of 4 item)) (cancelled now))
  where
    now : List Item
    now = marking (sender_of order) order.reference book.waiting

-- RULES 6.16: what is selected is fixed, and the rest of what is due is left; the cycle is sent, and counts as run. Nothing is booked
unfoldable pub cycle : Ledger → Order → Outcome
cycle book order = settles 0 (left_by book) (put_day (cycle_sent book.day) (put_waiting (fixing (selection book)) book)) []

-- RULES 6.17: what leaves today is deleted or suspended, in list order, with a notice each; marks are dropped; the day is closed
unfoldable pub close : Ledger → Order → Outcome
close book order =
    removes (sides (keep (deleted_at_close book.day.number) gone)) (sides (keep (suspended_at_close book.day.number) gone))
    (put_day (closing book.day) (put_waiting (map unmarked (keep (λ item. not (leaves book.day.number item)) book.waiting)) book))
    (map (close_notice book.day.number) gone)
  where
    gone : List Item
    gone = keep (leaves book.day.number) book.waiting

-- RULES 6.18: the quantity is the rate from now on; what waits stays as it is
unfoldable pub set_rate : Ledger → Order → Outcome
set_rate book order = silent (put_rate order.quantity.0 book)

-- the request that an order makes today
abbrev pub new_request : (today : ℕ) → Order → Request
new_request today order =
    record { security = order.security; typ = order.debited.typ; shareholder = order.debited.shareholder; quantity = order.quantity; day = today }

-- RULES 6.19: the quantity goes from the debited account to its owner's account of type 50, and the request opens under the member's reference
unfoldable pub request_paper : Ledger → Order → Outcome
request_paper book order =
    moving (move (account (account_of order.security order.debited)) (account (request_account requested member request)) order.quantity.0 ∷ [])
    (put_requests (put_request member order.reference request book.requests) book)
  where
    member : ℕ
    member = order.debited.member

    request : Request
    request = new_request book.day.number order

-- the request that an order's member has under its reference, and so the one that it ends: of quantity 0 where none is open
abbrev pub request_of : Requests → Order → Request
request_of requests order = requests.asked order.debited.member order.reference

abbrev pub ended_request : Ledger → Order → Request
ended_request book order = request_of book.requests order

-- where the shares of an ended request go: to the credited type, or outside
abbrev pub paper_place : (credited member : ℕ) → Request → Place
paper_place credited member request = if is_outside credited then type91 request.security else account (request_account credited member request)

-- RULES 6.20: all that was requested goes from type 50 to its owner's account of the credited type, or outside, and the request closes
unfoldable pub end_request : Ledger → Order → Outcome
end_request book order =
    moving (move (account (request_account requested member request)) (paper_place order.credited.typ member request) request.quantity.0 ∷ [])
    (put_requests (put_request member order.reference no_request book.requests) book)
  where
    member : ℕ
    member = order.debited.member

    request : Request
    request = ended_request book order

-- RULES 9.20: all fixed trades are booked, with four rows each, and leave
unfoldable pub confirm : Ledger → Outcome
confirm book =
    settles (sides (settled book)) 0
    (put_day (cycle_answered book.day) (put_holdings (booked (legs (settled book)) book.holdings) (put_waiting (not_settled book) book)))
    (posting_rows (legs (settled book)))

-- RULES 9.21: none is, and they wait on
unfoldable pub decline : Ledger → Outcome
decline book = silent (put_day (cycle_answered book.day) (put_waiting (declined book.waiting) book))

-- RULES 6.21: the sent cycle is confirmed where the quantity is 1, and declined where it is 2
unfoldable pub answer_cycle : Ledger → Order → Outcome
answer_cycle book order = if order.quantity.0 is 1 then confirm book else decline book

-- Everything that the rules say of a form (RULES 2.2, 4.7, 6).
pub record Form : Type 0 where
  pub name : String
  -- the fields that it uses, besides form and minute, each with its rule
  pub fields : List Rule
  -- the first and the last minute at which it may come
  pub window : Window
  pub effect : Ledger → Order → Outcome
  -- whether its rows are posting rows, or else notices
  pub posts : Bool
  -- the sides that it takes in
  pub takes : ℕ

abbrev row : String → List Rule → Window → (Ledger → Order → Outcome) → Bool → ℕ → Form
row name fields window effect posts takes = record { name = name; fields = fields; window = window; effect = effect; posts = posts; takes = takes }

-- its rows are posting rows, or notices; fields that it uses from 1
abbrev postings : Bool
postings = true

abbrev notices : Bool
notices = false

abbrev needs : List ℕ → List Rule
needs = map from1

-- The forms, from 1: name, fields, window, effect, rows, sides taken in.
unfoldable pub forms : List Form
forms =
    -- 1, RULES 6.1; the quantity is the day kind
    row "open day" (from1_to 2 quantity ∷ []) opening_hours open_day postings 0
    -- 2, RULES 6.2
    ∷ row "admit" (needs (security ∷ quantity ∷ [])) office_hours admit postings 0
    -- 3, RULES 6.3
    ∷ row "deposit" (needs (security ∷ C ++ (quantity ∷ []))) counter_hours deposit postings 0
    -- 4, RULES 6.4
    ∷ row "withdrawal" (needs (security ∷ D ++ (quantity ∷ []))) counter_hours withdraw postings 0
    -- 5, RULES 6.5
    ∷ row "transfer" (needs (security ∷ D ++ C ++ (quantity ∷ settlement_day ∷ []))) counter_hours transfer postings 0
    -- 6, RULES 6.6
    ∷ row "pledge" (needs (security ∷ D ++ C ++ (quantity ∷ settlement_day ∷ []))) counter_hours transfer postings 0
    -- 7, RULES 6.7
    ∷ row "release" (needs (security ∷ D ++ C ++ (quantity ∷ settlement_day ∷ []))) counter_hours transfer postings 0
    -- 8, RULES 6.8
    ∷ row "block" (needs (security ∷ D ++ C ++ (quantity ∷ settlement_day ∷ []))) counter_hours transfer postings 0
    -- 9, RULES 6.9
    ∷ row "unblock" (needs (security ∷ D ++ C ++ (quantity ∷ settlement_day ∷ []))) counter_hours transfer postings 0
    -- 10, RULES 6.10
    ∷ row "pay-in" (needs (currency ∷ credited_member ∷ amount ∷ [])) office_hours pay_in postings 0
    -- 11, RULES 6.11
    ∷ row "pay-out" (needs (currency ∷ debited_member ∷ amount ∷ [])) office_hours pay_out postings 0
    -- 12, RULES 6.12
    ∷ row "deliver" (needs (all_but credited_type)) payment_hours instruct postings 1
    -- 13, RULES 6.13
    ∷ row "receive" (needs (all_but debited_type)) payment_hours instruct postings 1
    -- 14, RULES 6.14
    ∷ row "exchange trade" (needs all) office_hours trade postings 2
    -- 15, RULES 6.15; the debited member is the sender
    ∷ row "cancel" (needs (debited_member ∷ reference ∷ [])) office_hours cancel notices 0
    -- 16, RULES 6.16
    ∷ row "cycle" [] cycle_hours cycle postings 0
    -- 17, RULES 6.17
    ∷ row "close" [] closing_hours close notices 0
    -- 18, RULES 6.18; the quantity is the rate
    ∷ row "set rate" (needs (quantity ∷ [])) office_hours set_rate postings 0
    -- 19, RULES 6.19
    ∷ row "request paper" (needs (security ∷ D ++ (quantity ∷ reference ∷ []))) counter_hours request_paper postings 0
    -- 20, RULES 6.20; the debited member is the one that made the request
    ∷ row "end request" (needs (debited_member ∷ credited_type ∷ reference ∷ [])) counter_hours end_request postings 0
    -- 21, RULES 6.21; the quantity is the answer
    ∷ row "answer cycle" (from1_to 2 quantity ∷ []) answer_hours answer_cycle postings 0
    ∷ []

-- what stands for a number that no form has
abbrev pub no_row : Form
no_row = row "" [] (λ day order. (0, 0)) (λ book order. silent book) postings 0

-- the row of a form's number
unfoldable pub row_of : ℕ → Form
row_of zero = no_row
row_of (suc n) = get_or forms n no_row

-- What the row says of a field: whether it is used, the least and the most that it may be.
abbrev pub rules_of : ℕ → List Rule
rules_of form = always ++ (row_of form).fields

unfoldable pub used : (form place : ℕ) → Bool
used form place = some (λ rule. place is rule.place) (rules_of form)

unfoldable pub least : (form place : ℕ) → ℕ
least form place = (rule_in (rules_of form) place).least

unfoldable pub most : (form place : ℕ) → ℕ
most form place = (rule_in (rules_of form) place).most

-- the first and the last minute at which an order may come
unfoldable pub window_of : Day → Order → ℕ × ℕ
window_of day order = (row_of order.form).window day order

-- what an order does
unfoldable pub effect : Ledger → Order → Outcome
effect book order = (row_of order.form).effect book order

-- 1 where the order's rows are posting rows, 0 where they are notices
unfoldable pub writes : Order → ℕ
writes order = if (row_of order.form).posts then 1 else 0

-- the sides that an order takes in
unfoldable pub takes_in : Order → ℕ
takes_in order = (row_of order.form).takes
