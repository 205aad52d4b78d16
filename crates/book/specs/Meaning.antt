-- What a book of words means in the rulebook.
use Rattle.std.specs.Prelude.{ℕ, List, [], ◌∷◌, get_or}
use Rattle.plain.specs.Lists.{◌is◌}
use Rattle.rulebook.specs.Ledger.{Ledger, Holdings, Requests}
use Rattle.rulebook.specs.declared.Day.{Day}
use Rattle.rulebook.specs.declared.Item.{Item}
use Rattle.words.specs.Regions.{region, whole}
use Rattle.words.specs.Tables.{rows}
use Rattle.securities.specs.Admitted.{securities_of}
use Rattle.accounts.specs.Map.{balance_of}
use Rattle.cash.specs.Amounts.{amount_of}
use Rattle.waiting_list.specs.Waiting.{items_of}
use Rattle.requests.specs.Map as requests

-- the regions of a book and how many words each has: the day, the securities, the accounts, the members' cash, the waiting list, the rate, the open
-- requests for paper
abbrev pub widths : List ℕ
widths = 8 ∷ 129 ∷ 513 ∷ 128 ∷ 1025 ∷ 1 ∷ 49 ∷ []

-- how many words a book has
abbrev pub book_length : ℕ
book_length = whole widths

-- the regions by their places in that list
abbrev pub DAY : ℕ
DAY = 0

abbrev pub SECURITIES : ℕ
SECURITIES = 1

abbrev pub ACCOUNTS : ℕ
ACCOUNTS = 2

abbrev pub CASH : ℕ
CASH = 3

abbrev pub ITEMS : ℕ
ITEMS = 4

abbrev pub RATE : ℕ
RATE = 5

abbrev pub REQUESTS : ℕ
REQUESTS = 6

abbrev pub part : ℕ → List ℕ → List ℕ
part r book = region widths r book

-- the day's words: its number, 1 where it is open, its kind, cycles run, last minute, 1 where a cycle is sent
abbrev pub day_in : List ℕ → Day
day_in d = record { number = get_or d 0 0; opened = get_or d 1 0 is 1; kind = get_or d 2 0; cycles = get_or d 3 0; minute = get_or d 4 0; sent = get_or d 5 0 is 1 }

-- the rate's word
abbrev pub rate_in : List ℕ → ℕ
rate_in r = get_or r 0 0

-- what the parts mean together
abbrev pub holdings_by : (ℕ → List ℕ) → Holdings
holdings_by p =
    record {
      securities = securities_of (p SECURITIES);
      balance = balance_of (p ACCOUNTS);
      accounts = rows (p ACCOUNTS);
      cash = amount_of (p CASH);
    }

-- the same of the whole ledger, for the proofs: one region at a time is replaced
abbrev pub ledger_by : (ℕ → List ℕ) → Ledger
ledger_by p =
    record {
      day = day_in (p DAY);
      holdings = holdings_by p;
      waiting = items_of (p ITEMS);
      rate = rate_in (p RATE);
      requests = requests.requests_of (p REQUESTS);
    }

-- the holdings, the waiting list and the open requests of a book
unfoldable pub holdings_of : List ℕ → Holdings
holdings_of book = holdings_by (λ r. part r book)

unfoldable pub waiting_of : List ℕ → List Item
waiting_of book = items_of (part ITEMS book)

unfoldable pub requests_of : List ℕ → Requests
requests_of book = requests.requests_of (part REQUESTS book)

-- the ledger that a book means
abbrev pub ledger_of : List ℕ → Ledger
ledger_of book =
    record {
      day = day_in (part DAY book);
      holdings = holdings_of book;
      waiting = waiting_of book;
      rate = rate_in (part RATE book);
      requests = requests_of book;
    }
