-- The book (RULES 3), and the day (RULES 4).
use Rattle.std.specs.Prelude.{if◌then◌else◌, ℕ, ◌+◌, ◌-◌, ◌^◌, Bool, true, false, ◌&&◌, List, [], map}
use Rattle.plain.specs.Lists.{◌is◌, some, total, sum_below}
use Rattle.rulebook.specs.declared.Party.{Party}
use Rattle.rulebook.specs.declared.Account.{Account}
use Rattle.rulebook.specs.declared.Day.{Day}
use Rattle.rulebook.specs.declared.Security.{Security}
use Rattle.rulebook.specs.declared.Shares.{Shares}
use Rattle.rulebook.specs.declared.Item.{Item}
use Rattle.rulebook.specs.declared.Request.{Request}

pub record Holdings : Type 0 where
  -- in the order in which they were admitted
  pub securities : List Security
  -- RULES 3.4, 3.6: a map, so that their order is free; 0 where there is no account
  pub balance : Account → ℕ
  -- how many accounts have a balance (RULES 3.3)
  pub accounts : ℕ
  -- in hundredths; 0 where a member has none
  pub cash : (member currency : ℕ) → ℕ

pub record Requests : Type 0 where
  -- RULES 3.15, 3.16: by member and reference, a map, so that their order is free; of quantity 0 where none is open
  pub asked : (member reference : ℕ) → Request
  -- how many are open
  pub number : ℕ

pub record Ledger : Type 0 where
  pub day : Day
  pub holdings : Holdings
  -- in the order in which they arrived
  pub waiting : List Item
  -- RULES 3.14: hundredths of LBP for one USD
  pub rate : ℕ
  pub requests : Requests

-- RULES 3.14: the rate as long as none was set
abbrev pub first_rate : ℕ
first_rate = 150_750

-- what stands where no request is open
abbrev pub no_request : Request
no_request = record { security = 0; typ = 0; shareholder = 0; quantity = record { 0 = 0 }; day = 0 }

-- RULES 3.2
unfoldable pub fresh : Ledger
fresh = record {
  day = record { opened = false; number = 0; kind = 0; cycles = 0; minute = 0; sent = false };
  holdings = record { securities = []; balance = λ account. 0; accounts = 0; cash = λ member currency. 0 };
  waiting = [];
  rate = first_rate;
  requests = record { asked = λ member reference. no_request; number = 0 };
}

-- the book with one part replaced
unfoldable pub put_day : Day → Ledger → Ledger
put_day day book = record { day = day; holdings = book.holdings; waiting = book.waiting; rate = book.rate; requests = book.requests }

unfoldable pub put_holdings : Holdings → Ledger → Ledger
put_holdings holdings book = record { day = book.day; holdings = holdings; waiting = book.waiting; rate = book.rate; requests = book.requests }

unfoldable pub put_waiting : List Item → Ledger → Ledger
put_waiting waiting book = record { day = book.day; holdings = book.holdings; waiting = waiting; rate = book.rate; requests = book.requests }

unfoldable pub put_rate : (rate : ℕ) → Ledger → Ledger
put_rate rate book = record { day = book.day; holdings = book.holdings; waiting = book.waiting; rate = rate; requests = book.requests }

unfoldable pub put_requests : Requests → Ledger → Ledger
put_requests requests book = record { day = book.day; holdings = book.holdings; waiting = book.waiting; rate = book.rate; requests = requests }

-- RULES 4.1 to 4.6, 4.14: the day with another last minute, when it opens as a day of a kind, and when it closes
abbrev pub with_minute : ℕ → Day → Day
with_minute minute day = record { opened = day.opened; number = day.number; kind = day.kind; cycles = day.cycles; minute = minute; sent = day.sent }

abbrev pub opening : (kind : ℕ) → Day → Day
opening kind day = record { opened = true; number = day.number + 1; kind = kind; cycles = 0; minute = day.minute; sent = day.sent }

abbrev pub closing : Day → Day
closing day = record { opened = false; number = day.number; kind = day.kind; cycles = day.cycles; minute = day.minute; sent = day.sent }

-- RULES 4.16: with a cycle sent, which counts as run from then on, and with that cycle answered
abbrev pub cycle_sent : Day → Day
cycle_sent day = record { opened = day.opened; number = day.number; kind = day.kind; cycles = day.cycles + 1; minute = day.minute; sent = true }

abbrev pub cycle_answered : Day → Day
cycle_answered day = record { opened = day.opened; number = day.number; kind = day.kind; cycles = day.cycles; minute = day.minute; sent = false }

-- a party's account in a security
unfoldable pub account_of : ℕ → Party → Account
account_of security party = record { security = security; member = party.member; typ = party.typ; shareholder = party.shareholder }

-- a member's account of the shares of a request, in a type
unfoldable pub request_account : (typ member : ℕ) → Request → Account
request_account typ member request = record { security = request.security; member = member; typ = typ; shareholder = request.shareholder }

-- the shares of a request that lie in an account of its member
abbrev pub asked_under : Account → Request → ℕ
asked_under account request =
    if request.security is account.security && request.shareholder is account.shareholder then request.quantity.0 else 0

unfoldable pub same_account : Account → Account → Bool
same_account a b = a.security is b.security && a.member is b.member && a.typ is b.typ && a.shareholder is b.shareholder

-- 1 where there is an account, which has a non-zero balance, or a request, which has a non-zero quantity
unfoldable pub counted : ℕ → ℕ
counted balance = if balance is 0 then 0 else 1

-- the one definition that changes a balance; it keeps the number of accounts
unfoldable pub put_balance : Account → ℕ → Holdings → Holdings
put_balance account balance h = record {
  securities = h.securities;
  balance = λ other. if same_account account other then balance else h.balance other;
  accounts = h.accounts + counted balance - counted (h.balance account);
  cash = h.cash;
}

-- the one definition that changes a request; it keeps their number. A request of quantity 0 is none
unfoldable pub put_request : (member reference : ℕ) → Request → Requests → Requests
put_request member reference request r = record {
  asked = λ m n. if member is m && reference is n then request else r.asked m n;
  number = r.number + counted request.quantity.0 - counted (r.asked member reference).quantity.0;
}

unfoldable pub put_cash : (member currency amount : ℕ) → Holdings → Holdings
put_cash member currency amount h = record {
  securities = h.securities;
  balance = h.balance;
  accounts = h.accounts;
  cash = λ m c. if member is m && currency is c then amount else h.cash m c;
}

unfoldable pub put_securities : List Security → Holdings → Holdings
put_securities securities h = record { securities = securities; balance = h.balance; accounts = h.accounts; cash = h.cash }

-- a security that is admitted now, none of it outside or held yet; one with another outside count; and one with another held count
abbrev pub new_security : (code : ℕ) → (issued : Shares) → Security
new_security code issued = record { code = code; issued = issued; outside = record { 0 = 0 }; held = record { 0 = 0 } }

abbrev pub with_outside : (count : ℕ) → Security → Security
with_outside count s = record { code = s.code; issued = s.issued; outside = record { 0 = count }; held = s.held }

abbrev pub with_held : (count : ℕ) → Security → Security
with_held count s = record { code = s.code; issued = s.issued; outside = s.outside; held = record { 0 = count } }

-- the holdings with the security of a code changed
abbrev pub changing : (code : ℕ) → (Security → Security) → Holdings → Holdings
changing code change h = put_securities (map (λ s. if s.code is code then change s else s) h.securities) h

unfoldable pub put_outside : (security count : ℕ) → Holdings → Holdings
put_outside security count = changing security (with_outside count)

unfoldable pub put_held : (security count : ℕ) → Holdings → Holdings
put_held security count = changing security (with_held count)

unfoldable pub admitted : ℕ → Holdings → Bool
admitted security h = some (λ s. s.code is security) h.securities

-- the counts of a security: 0 where it is not admitted
abbrev pub count_of : (Security → Shares) → ℕ → Holdings → ℕ
count_of count security h = total (λ s. if s.code is security then (count s).0 else 0) h.securities

unfoldable pub issued_of : ℕ → Holdings → ℕ
issued_of = count_of (λ s. s.issued)

unfoldable pub outside_of : ℕ → Holdings → ℕ
outside_of = count_of (λ s. s.outside)

-- RULES 3.19: the count that is kept, which `Theorems` says is what `held` adds up
unfoldable pub held_of : ℕ → Holdings → ℕ
held_of = count_of (λ s. s.held)

-- RULES 3.17: for how many shares of an account paper is requested, over the references that a record can name
unfoldable pub asked_of : Account → Requests → ℕ
asked_of account r = sum_below (2 ^ 32) λ reference. asked_under account (r.asked account.member reference)

-- over all members
unfoldable pub cash_total : ℕ → Holdings → ℕ
cash_total currency h = sum_below 64 (λ n. h.cash (n + 1) currency)

-- RULES 1.17: all balances of a security, over the members, types and shareholders that a record's fields can name
unfoldable pub held : ℕ → Holdings → ℕ
held security h =
    sum_below (2 ^ 10) λ member. sum_below (2 ^ 8) λ typ. sum_below (2 ^ 30) λ shareholder.
    h.balance (record { security = security; member = member; typ = typ; shareholder = shareholder })
