-- Waiting items: their states, sides, senders and marks (RULES 1.19 to 1.23, 10).
use Rattle.std.specs.Prelude.{if◌then◌else◌, ℕ, Bool, true, false, not, ◌||◌, ◌&&◌, List, map}
use Rattle.plain.specs.Lists.{◌is◌, total, keep}
use Rattle.rulebook.specs.declared.Order.{Order}
use Rattle.rulebook.specs.declared.Item.{Item}
use Rattle.rulebook.specs.declared.State.{State}
use Rattle.rulebook.specs.declared.State.TheVariants.{Single, Pair, Trade}

unfoldable pub item_of : State → Order → Item
item_of state order = record {
  security = order.security;
  currency = order.currency;
  debited = order.debited;
  credited = order.credited;
  quantity = order.quantity;
  amount = order.amount;
  trade_day = order.trade_day;
  settlement_day = order.settlement_day;
  state = state;
  sent = false;
}

-- RULES 6.12, 6.13: an instruction as a single
abbrev pub single_of : Order → Item
single_of order = item_of (Single (order.form is 12) order.reference) order

unfoldable pub is_deliver : State → Bool
is_deliver (Single delivers reference) = delivers
is_deliver (Pair d r dm rm) = false
is_deliver (Trade reference) = false

unfoldable pub is_receive : State → Bool
is_receive (Single delivers reference) = not delivers
is_receive (Pair d r dm rm) = false
is_receive (Trade reference) = false

-- RULES 1.20
unfoldable pub is_trade : State → Bool
is_trade (Single delivers reference) = false
is_trade (Pair d r dm rm) = true
is_trade (Trade reference) = true

-- the reference of a single or an exchange trade
unfoldable pub own_reference : State → ℕ
own_reference (Single delivers reference) = reference
own_reference (Pair d r dm rm) = 0
own_reference (Trade reference) = reference

-- RULES 1.21
unfoldable pub sides_of : State → ℕ
sides_of (Single delivers reference) = 1
sides_of (Pair d r dm rm) = 2
sides_of (Trade reference) = 2

unfoldable pub sides : List Item → ℕ
sides items = total (λ item. sides_of item.state) items

-- RULES 1.22: the sender of all exchange trades, a number that no member has
abbrev pub exchange : ℕ
exchange = 0

-- RULES 1.22, 2.6: who sends an order
unfoldable pub sender_of : Order → ℕ
sender_of order = if order.form is 13 then order.credited.member else if order.form is 14 then exchange else order.debited.member

-- RULES 1.23: the item waits under that sender's reference
unfoldable pub sent_by : ℕ → ℕ → Item → Bool
sent_by sender reference item = sent item.state
  where
    sent : State → Bool
    sent (Single delivers own) = (if delivers then sender is item.debited.member else sender is item.credited.member) && reference is own
    sent (Pair deliver receive dm rm) = (sender is item.debited.member && reference is deliver) || (sender is item.credited.member && reference is receive)
    sent (Trade own) = sender is exchange && reference is own

-- RULES 7.15: a single, or a pair with this sender's mark
unfoldable pub not_cancellable : ℕ → Item → Bool
not_cancellable sender item = blocked item.state
  where
    blocked : State → Bool
    blocked (Single delivers own) = true
    blocked (Pair d r deliver_marked receive_marked) = if sender is item.debited.member then deliver_marked else receive_marked
    blocked (Trade own) = false

unfoldable pub with_state : State → Item → Item
with_state state item = record {
  security = item.security;
  currency = item.currency;
  debited = item.debited;
  credited = item.credited;
  quantity = item.quantity;
  amount = item.amount;
  trade_day = item.trade_day;
  settlement_day = item.settlement_day;
  state = state;
  sent = item.sent;
}

-- RULES 9.19: fixed by a sent cycle, or not
unfoldable pub with_sent : Bool → Item → Item
with_sent sent item = record {
  security = item.security;
  currency = item.currency;
  debited = item.debited;
  credited = item.credited;
  quantity = item.quantity;
  amount = item.amount;
  trade_day = item.trade_day;
  settlement_day = item.settlement_day;
  state = item.state;
  sent = sent;
}

-- RULES 10.2: with the sender's mark
unfoldable pub marked : ℕ → Item → Item
marked sender item = with_state (mark item.state) item
  where
    mark : State → State
    mark (Single delivers reference) = Single delivers reference
    mark (Pair d r dm rm) = if sender is item.debited.member then Pair d r true rm else Pair d r dm true
    mark (Trade reference) = Trade reference

unfoldable pub both_marked : State → Bool
both_marked (Single delivers reference) = false
both_marked (Pair d r deliver_marked receive_marked) = deliver_marked && receive_marked
both_marked (Trade reference) = false

-- the waiting list with the sender's half of the item of that reference marked
unfoldable pub marking : (sender reference : ℕ) → List Item → List Item
marking sender reference = map (λ item. if sent_by sender reference item then marked sender item else item)

-- RULES 10.3: what leaves with its second mark, and what stays
unfoldable pub cancelled : List Item → List Item
cancelled = keep (λ item. both_marked item.state)

unfoldable pub staying : List Item → List Item
staying = keep (λ item. not (both_marked item.state))

-- RULES 4.13: without marks
unfoldable pub unmarked : Item → Item
unmarked item = with_state (clear item.state) item
  where
    clear : State → State
    clear (Single delivers reference) = Single delivers reference
    clear (Pair d r dm rm) = Pair d r false false
    clear (Trade reference) = Trade reference
