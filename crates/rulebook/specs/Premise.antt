-- What the fresh book meets and every call keeps, as `Theorems` says: the one premise of a call, which no caller has to show (RULES 12.15 to 12.17).
use Rattle.std.specs.Prelude.{if◌then◌else◌, ℕ, ◌+◌, ◌≤◌, ◌<◌, ◌^◌, Bool, true, false, not, ◌||◌, List, ◌≡◌, length}
use Rattle.plain.specs.Lists.{◌is◌, total, Each, sum_below}
use Rattle.rulebook.specs.TypeTable.{requested}
use Rattle.rulebook.specs.AccountTypes.{is_free, alike, account_type, has_paper}
use Rattle.rulebook.specs.Ledger.{Holdings, Ledger, Requests, account_of, same_account, counted, admitted, issued_of, outside_of, held_of, asked_of, cash_total, held}
use Rattle.rulebook.specs.declared.Day.{Day}
use Rattle.rulebook.specs.declared.Account.{Account}
use Rattle.rulebook.specs.Windows.{cycle_minutes, all_run, office_end}
use Rattle.rulebook.specs.Shortfall.{NothingShort}
use Rattle.rulebook.specs.Selection.{due}
use Rattle.rulebook.specs.Cycle.{fixed}
use Rattle.rulebook.specs.Waiting.{sent_by, both_marked}
use Rattle.rulebook.specs.declared.Party.{Party}
use Rattle.rulebook.specs.declared.Security.{Security}
use Rattle.rulebook.specs.declared.Item.{Item}
use Rattle.rulebook.specs.declared.Request.{Request}
use Rattle.rulebook.specs.declared.State.{State}
use Rattle.rulebook.specs.declared.State.TheVariants.{Single, Pair, Trade}

-- RULES 3.1: the limits
pub record Sizes (b : Ledger) : Type 0 where
  pub securities : length b.holdings.securities ≤ 32
  pub items : length b.waiting ≤ 64
  pub accounts : b.holdings.accounts + length b.waiting ≤ 256

-- how many accounts have a balance, over all that a record's fields can name
unfoldable pub account_count : Holdings → ℕ
account_count h =
    sum_below (2 ^ 14) λ security. sum_below (2 ^ 10) λ member. sum_below (2 ^ 8) λ typ. sum_below (2 ^ 30) λ shareholder.
    counted (h.balance (record { security = security; member = member; typ = typ; shareholder = shareholder }))

-- how many requests are open, over all that a record's fields can name
unfoldable pub request_count : Requests → ℕ
request_count r = sum_below (2 ^ 10) λ member. sum_below (2 ^ 32) λ reference. counted (r.asked member reference).quantity.0

-- how many securities have a code, and an admitted security
abbrev pub with_code : ℕ → List Security → ℕ
with_code code securities = total (λ s. if s.code is code then 1 else 0) securities

pub record SecurityFits (s : Security) : Type 0 where
  pub code_least : 1 ≤ s.code
  pub code_most : s.code < 2 ^ 14
  pub issued_least : 1 ≤ s.issued.0
  pub issued_most : s.issued.0 < 2 ^ 40

-- RULES 1.12, 1.13: a member and a shareholder
pub record Named (member shareholder : ℕ) : Type 0 where
  pub member_least : 1 ≤ member
  pub member_most : member ≤ 64
  pub shareholder_least : 1 ≤ shareholder
  pub shareholder_most : shareholder < 2 ^ 30

-- an account that can have a balance
pub record AccountFits (h : Holdings) (a : Account) : Type 0 where
  pub security : admitted a.security h ≡ true
  pub named : Named a.member a.shareholder
  pub typ : account_type a.typ ≡ true

-- a member and a currency that can have cash
pub record CashFits (member currency : ℕ) : Type 0 where
  pub member_least : 1 ≤ member
  pub member_most : member ≤ 64
  pub currency_least : 1 ≤ currency
  pub currency_most : currency ≤ 2

-- A waiting item, in parts: what stays as long as it waits; its days; its state; and that it is not overdue.

-- security, currency, parties, quantity and amount
pub record TermsFit (security currency : ℕ) (debited credited : Party) (quantity amount : ℕ) : Type 0 where
  pub security_least : 1 ≤ security
  pub security_most : security < 2 ^ 14
  pub currency_least : 1 ≤ currency
  pub currency_most : currency ≤ 2
  pub debited_named : Named debited.member debited.shareholder
  pub credited_named : Named credited.member credited.shareholder
  pub quantity_least : 1 ≤ quantity
  pub quantity_most : quantity < 2 ^ 40
  pub amount_least : 1 ≤ amount
  pub amount_most : amount < 2 ^ 40

-- traded on a day up to the last that opened, to settle on that day or later, at most 20 days from the last that opened
pub record DaysFit (number trade_day settlement_day : ℕ) : Type 0 where
  pub traded_least : 1 ≤ trade_day
  pub traded_most : trade_day ≤ number
  pub settles_least : trade_day ≤ settlement_day
  pub settles_most : settlement_day ≤ number + 20

pub record ReferenceFits (reference : ℕ) : Type 0 where
  pub least : 1 ≤ reference
  pub most : reference < 2 ^ 32

pub record SingleFits (debited credited : Party) (delivers : Bool) (reference : ℕ) : Type 0 where
  pub named : ReferenceFits reference
  -- its own side free and its other side's type 0
  pub own : (if delivers then is_free debited.typ else is_free credited.typ) ≡ true
  pub other : (if delivers then credited.typ else debited.typ) ≡ 0
  pub shareholders : debited.shareholder ≡ credited.shareholder
  pub members : (debited.member is credited.member) ≡ false

pub record PairFits (debited credited : Party) (deliver receive : ℕ) : Type 0 where
  pub deliver_named : ReferenceFits deliver
  pub receive_named : ReferenceFits receive
  -- both sides free, both book entry or both physical
  pub types : alike debited.typ credited.typ ≡ true
  pub shareholders : debited.shareholder ≡ credited.shareholder
  pub members : (debited.member is credited.member) ≡ false

pub record TradeFits (security : ℕ) (debited credited : Party) (reference : ℕ) : Type 0 where
  pub named : ReferenceFits reference
  pub types : alike debited.typ credited.typ ≡ true
  -- not on one account
  pub apart : same_account (account_of security debited) (account_of security credited) ≡ false

abbrev pub StateFits : (security : ℕ) (debited credited : Party) → State → Type 0
StateFits security debited credited (Single delivers reference) = SingleFits debited credited delivers reference
StateFits security debited credited (Pair deliver receive dm rm) = PairFits debited credited deliver receive
StateFits security debited credited (Trade reference) = TradeFits security debited credited reference

-- today is the day that is open, or that opens next: a pair may be up to 10 days late
abbrev pub NotOverdue : (today settlement_day : ℕ) → State → Type 0
NotOverdue today settlement_day (Single delivers reference) = today ≤ settlement_day
NotOverdue today settlement_day (Pair deliver receive dm rm) = today ≤ settlement_day + 10
NotOverdue today settlement_day (Trade reference) = today ≤ settlement_day

pub record ItemFits (number today : ℕ) (h : Holdings) (i : Item) : Type 0 where
  pub listed : admitted i.security h ≡ true
  pub terms : TermsFit i.security i.currency i.debited i.credited i.quantity.0 i.amount.0
  pub days : DaysFit number i.trade_day i.settlement_day
  pub state : StateFits i.security i.debited i.credited i.state
  pub due : NotOverdue today i.settlement_day i.state

-- the day that is open, or that opens next
abbrev pub today : Day → ℕ
today day = if day.opened then day.number else day.number + 1

-- RULES 9.23: an item is fixed only while a cycle is sent, and is then a trade whose day has come
abbrev pub SentFits : Day → Item → Type 0
SentFits day i = i.sent ≡ true → (day.sent ≡ true) × (due day.number i ≡ true)

-- how many items wait under a sender's reference
abbrev pub sent : (sender reference : ℕ) → List Item → ℕ
sent sender reference items = total (λ item. if sent_by sender reference item then 1 else 0) items

-- the day; kind and cycles stay after close
pub record DayFits (d : Day) : Type 0 where
  pub number : d.number ≤ 60_000
  pub kind : d.kind ≤ 2
  pub cycles : d.cycles ≤ length (cycle_minutes d.kind)
  pub minute : d.minute ≤ 1439
  -- while it is open
  pub number_least : d.opened ≡ true → 1 ≤ d.number
  pub kind_least : d.opened ≡ true → 1 ≤ d.kind
  -- no minute behind the office as long as a cycle is sent or still to run, so that all that is left of the day can still come
  pub office : d.opened ≡ true → (d.sent || not (all_run d)) ≡ true → d.minute ≤ office_end d.kind
  -- a cycle is sent only in an open day, and has run
  pub sent_open : d.sent ≡ true → d.opened ≡ true
  pub sent_run : d.sent ≡ true → 1 ≤ d.cycles

-- RULES 3.1: what the quantity of a record can be
pub record RateFits (rate : ℕ) : Type 0 where
  pub least : 1 ≤ rate
  pub most : rate < 2 ^ 40

-- an open request: of shares that can become paper, made today or before
pub record RequestFits (number : ℕ) (h : Holdings) (member reference : ℕ) (r : Request) : Type 0 where
  pub listed : admitted r.security h ≡ true
  pub security : r.security < 2 ^ 14
  pub named : Named member r.shareholder
  pub referenced : ReferenceFits reference
  pub typ : has_paper r.typ ≡ true
  pub quantity : r.quantity.0 < 2 ^ 40
  pub day : r.day ≤ number

pub record Premise (b : Ledger) : Type 0 where
  pub sizes : Sizes b
  -- the number of accounts is the number of those with a balance
  pub counted : b.holdings.accounts ≡ account_count b.holdings
  -- no two securities have one code
  pub codes : (code : ℕ) → with_code code b.holdings.securities ≤ 1
  pub securities : Each SecurityFits b.holdings.securities
  -- held + outside = issued
  pub issue : (security : ℕ) → held security b.holdings + outside_of security b.holdings ≡ issued_of security b.holdings
  -- RULES 3.19: the held count that is kept is what the accounts hold
  pub custody : (security : ℕ) → held_of security b.holdings ≡ held security b.holdings
  -- what has a balance is an account
  pub accounts : (a : Account) → 1 ≤ b.holdings.balance a → AccountFits b.holdings a
  -- a currency's total over all members, and who has cash
  pub ceiling : (currency : ℕ) → cash_total currency b.holdings ≤ 1_000_000_000_000_000
  pub cash : (member currency : ℕ) → 1 ≤ b.holdings.cash member currency → CashFits member currency
  pub items : Each (ItemFits b.day.number (today b.day) b.holdings) b.waiting
  -- no two items wait under one sender's reference
  pub references : (sender reference : ℕ) → sent sender reference b.waiting ≤ 1
  -- no pair waits with both halves marked
  pub halves : Each (λ item. both_marked item.state ≡ false) b.waiting
  pub day : DayFits b.day
  -- RULES 9.23: what is fixed can be booked now, whatever came since the cycle was sent
  pub sent : Each (SentFits b.day) b.waiting
  pub covered : NothingShort b.holdings (fixed b.waiting)
  pub rate : RateFits b.rate
  -- RULES 3.1: at most sixteen requests; their number is the number of those that are open
  pub sixteen : b.requests.number ≤ 16
  pub numbered : b.requests.number ≡ request_count b.requests
  pub requests : (member reference : ℕ) → 1 ≤ (b.requests.asked member reference).quantity.0
      → RequestFits b.day.number b.holdings member reference (b.requests.asked member reference)
  -- RULES 3.17: an account of type 50 has what is requested, and nothing else
  pub awaited : (a : Account) → a.typ ≡ requested → b.holdings.balance a ≡ asked_of a b.requests
