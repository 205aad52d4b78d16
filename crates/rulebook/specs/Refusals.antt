-- Refusals 6 to 24, in checking order (RULES 7).
use Rattle.std.specs.Prelude.{if◌then◌else◌, ℕ, ◌+◌, Bool, not, ◌||◌, ◌&&◌, List, [], ◌∷◌, ◌++◌, length}
use Rattle.plain.specs.Lists.{◌is◌, ◌is_not◌, ◌below◌, ◌one_of◌, within, some}
use Rattle.rulebook.specs.AccountTypes.{wrong_types, ends}
use Rattle.rulebook.specs.Windows.{all_run}
use Rattle.rulebook.specs.Ledger.{Ledger, Holdings, Requests, account_of, same_account, admitted, outside_of, cash_total}
use Rattle.rulebook.specs.Waiting.{sender_of, sent_by, not_cancellable}
use Rattle.rulebook.specs.Cycle.{offers}
use Rattle.rulebook.specs.Forms.{request_of, window_of, effect}
use Rattle.rulebook.specs.declared.Day.{Day}
use Rattle.rulebook.specs.declared.Item.{Item}
use Rattle.rulebook.specs.declared.Order.{Order}
use Rattle.rulebook.specs.declared.Request.{Request}

-- RULES 7.6: no day can open, or none is open
unfoldable pub wrong_day : Day → Order → Bool
wrong_day day order = if order.form is 1 then day.opened || day.number is 60_000 else not day.opened

-- RULES 7.7: a cycle too many, or a close too early
unfoldable pub wrong_cycle : Day → Order → Bool
wrong_cycle day order = (order.form is 16 && all_run day) || (order.form is 17 && not (all_run day))

-- RULES 7.22: cash, a further cycle or a close, while a cycle is sent
unfoldable pub awaits_answer : Day → Order → Bool
awaits_answer day order = order.form one_of (10 ∷ 11 ∷ 16 ∷ 17 ∷ []) && day.sent

-- RULES 7.23: an answer where no cycle is sent
unfoldable pub nothing_sent : Day → Order → Bool
nothing_sent day order = order.form is 21 && not day.sent

-- RULES 7.8: the minute goes back
unfoldable pub goes_back : Day → Order → Bool
goes_back day order = order.form is_not 1 && order.minute below day.minute

-- RULES 7.9: outside the form's window
unfoldable pub outside_window : Day → Order → Bool
outside_window day order = not (within (window_of day order).0 (window_of day order).1 order.minute)

-- the forms whose security is to be admitted, and those that take shares from the debited account
abbrev pub asks_security : ℕ → Bool
asks_security form = within 3 9 form || within 12 14 form || form is 19

abbrev pub debits_shares : ℕ → Bool
debits_shares form = within 4 9 form || form is 19

-- RULES 7.10: an unknown security, or one that is admitted again
unfoldable pub wrong_security : Holdings → Order → Bool
wrong_security holdings order =
    (asks_security order.form && not (admitted order.security holdings))
    || (order.form is 2 && admitted order.security holdings)

-- RULES 7.11: types that the form does not allow
unfoldable pub wrong_pair : Order → Bool
wrong_pair order = wrong_types order.form order.debited.typ order.credited.typ

-- RULES 7.12: parties that the form does not allow
unfoldable pub wrong_parties : Order → Bool
wrong_parties order =
    ((within 5 9 order.form || within 12 13 order.form) && order.debited.shareholder is_not order.credited.shareholder)
    || (within 6 9 order.form && order.debited.member is_not order.credited.member)
    || (within 12 13 order.form && order.debited.member is order.credited.member)
    || (order.form one_of (5 ∷ 14 ∷ []) && same_account (account_of order.security order.debited) (account_of order.security order.credited))

-- RULES 7.13: days that the form does not allow
unfoldable pub wrong_days : (today : ℕ) → Order → Bool
wrong_days today order =
    (within 5 9 order.form && order.settlement_day is_not today)
    || (within 12 13 order.form && not (within today (today + 20) order.settlement_day))
    || (order.form is 14 && order.settlement_day is_not (order.trade_day + 3))
    || (within 12 13 order.form && today below order.trade_day)
    || (order.form is 14 && order.trade_day is_not today)

-- RULES 7.14: a reference that already waits, or one to cancel that does not
unfoldable pub wrong_reference : List Item → Order → Bool
wrong_reference waiting order = (within 12 14 order.form && waits) || (order.form is 15 && not waits)
  where
    waits : Bool
    waits = some (sent_by (sender_of order) order.reference) waiting

-- RULES 7.15: what cannot be cancelled by this sender
unfoldable pub wrong_cancel : List Item → Order → Bool
wrong_cancel waiting order =
    order.form is 15
    && some (λ item. sent_by (sender_of order) order.reference item && not_cancellable (sender_of order) item) waiting

-- RULES 7.24: the trade is fixed by a sent cycle
unfoldable pub cancels_sent : List Item → Order → Bool
cancels_sent waiting order = order.form is 15 && some (λ item. sent_by (sender_of order) order.reference item && item.sent) waiting

-- a request of quantity 0 is none
abbrev pub is_open : Request → Bool
is_open request = request.quantity.0 is_not 0

-- RULES 7.19: a reference that the member has open, or one to end that it has not, or that the credited type does not end
unfoldable pub wrong_request : Requests → Order → Bool
wrong_request requests order =
    (order.form is 19 && is_open (request_of requests order))
    || (order.form is 20 && not (is_open (request_of requests order) && ends (request_of requests order).typ order.credited.typ))

-- RULES 7.20: what is to be ended was asked for today
unfoldable pub ends_too_soon : (today : ℕ) → Requests → Order → Bool
ends_too_soon today requests order = order.form is 20 && (request_of requests order).day is today

-- RULES 7.21: one request too many
unfoldable pub too_many_requests : Requests → Order → Bool
too_many_requests requests order = order.form is 19 && 15 below requests.number

-- RULES 7.16: too little where the movement takes from; an account keeps what fixed trades take from it
unfoldable pub too_little : Holdings → List Item → Order → Bool
too_little holdings waiting order =
    (order.form is 3 && outside_of order.security holdings below order.quantity.0)
    || (debits_shares order.form && offers holdings waiting (account_of order.security order.debited) below order.quantity.0)
    || (order.form is 11 && holdings.cash order.debited.member order.currency below order.amount.0)

-- RULES 7.17: above the ceiling of a currency's cash
unfoldable pub over_ceiling : Holdings → Order → Bool
over_ceiling holdings order = order.form is 10 && 1_000_000_000_000_000 below (cash_total order.currency holdings + order.amount.0)

-- RULES 7.18, 3.11: no room in the book that the call would leave
unfoldable pub no_space : Ledger → Order → Bool
no_space book order =
    let after : Ledger = (effect book order).after in
    32 below length after.holdings.securities || 64 below length after.waiting || 256 below (after.holdings.accounts + length after.waiting)

-- what the day and the order settle
unfoldable pub day_tests : Day → Order → List (ℕ × Bool)
day_tests day order =
    (6, wrong_day day order)
    ∷ (7, wrong_cycle day order)
    ∷ (22, awaits_answer day order)
    ∷ (23, nothing_sent day order)
    ∷ (8, goes_back day order)
    ∷ (9, outside_window day order)
    ∷ []

-- what the order says of its security, types, parties and days
unfoldable pub order_tests : Holdings → (today : ℕ) → Order → List (ℕ × Bool)
order_tests holdings today order =
    (10, wrong_security holdings order)
    ∷ (11, wrong_pair order)
    ∷ (12, wrong_parties order)
    ∷ (13, wrong_days today order)
    ∷ []

-- what it says of an item that waits
unfoldable pub item_tests : List Item → Order → List (ℕ × Bool)
item_tests waiting order =
    (14, wrong_reference waiting order)
    ∷ (15, wrong_cancel waiting order)
    ∷ (24, cancels_sent waiting order)
    ∷ []

-- what it says of an open request
unfoldable pub request_tests : Requests → (today : ℕ) → Order → List (ℕ × Bool)
request_tests requests today order =
    (19, wrong_request requests order)
    ∷ (20, ends_too_soon today requests order)
    ∷ (21, too_many_requests requests order)
    ∷ []

-- whether the book has enough, and room
unfoldable pub room_tests : Ledger → Order → List (ℕ × Bool)
room_tests book order =
    (16, too_little book.holdings book.waiting order)
    ∷ (17, over_ceiling book.holdings order)
    ∷ (18, no_space book order)
    ∷ []

-- RULES 7.0: five stages, one behind the other
unfoldable pub refusals : Ledger → Order → List (ℕ × Bool)
refusals book order =
    day_tests book.day order
    ++ (order_tests book.holdings book.day.number order
    ++ (item_tests book.waiting order ++ (request_tests book.requests book.day.number order ++ room_tests book order)))
