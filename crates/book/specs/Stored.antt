-- What is kept true of a book of words.
use Rattle.std.specs.Prelude.{ℕ, ◌≤◌, List, [], ◌∷◌, ◌++◌, ◌≡◌, length, get_or}
use Rattle.rulebook.specs.Ledger.{Ledger, Holdings, Requests, put_holdings, put_waiting, put_requests, put_securities, new_security, with_outside}
use Rattle.rulebook.specs.Premise.{Premise}
use Rattle.rulebook.specs.declared.Item.{Item}
use Rattle.rulebook.specs.declared.Shares.{Shares}
use Rattle.securities.specs.Admitted as securities
pub use Rattle.securities.specs.Admitted.{entered, left}
use Rattle.accounts.specs.Map as accounts
use Rattle.waiting_list.specs.Waiting as items
use Rattle.requests.specs.Map as requests
use Rattle.book.specs.Meaning.{book_length, DAY, SECURITIES, ACCOUNTS, ITEMS, REQUESTS, part, ledger_of}

-- of its parts
pub record StoredBy (p : ℕ → List ℕ) : Type 0 where
  pub opened : get_or (p DAY) 1 0 ≤ 1
  pub securities : securities.Kept (p SECURITIES)
  pub accounts : accounts.Kept (p ACCOUNTS)
  pub items : items.Sized (p ITEMS)
  pub requests : requests.Kept (p REQUESTS)

-- what every function on a book requires and keeps
pub record Stored (book : List ℕ) : Type 0 where
  pub long : length book ≡ book_length
  pub parts : StoredBy (λ r. part r book)

-- what the fresh book is and every call keeps
pub record Kept (book : List ℕ) : Type 0 where
  pub stored : Stored book
  pub premise : Premise (ledger_of book)

-- a book means a ledger
pub record Means (book : List ℕ) (b : Ledger) : Type 0 where
  pub stored : Stored book
  pub ledger : ledger_of book ≡ b

-- what a function makes of a book's ledger, of its holdings alone, of its waiting list alone, of its open requests alone
abbrev pub Becomes : (Ledger → Ledger) → (before after : List ℕ) → Type 0
Becomes f before after = Means after (f (ledger_of before))

abbrev pub HoldingsBecome : (Holdings → Holdings) → (before after : List ℕ) → Type 0
HoldingsBecome f = Becomes (λ b. put_holdings (f b.holdings) b)

abbrev pub WaitingBecomes : (List Item → List Item) → (before after : List ℕ) → Type 0
WaitingBecomes f = Becomes (λ b. put_waiting (f b.waiting) b)

abbrev pub RequestsBecome : (Requests → Requests) → (before after : List ℕ) → Type 0
RequestsBecome f = Becomes (λ b. put_requests (f b.requests) b)

-- the holdings with a security more, all of it outside
abbrev pub with_security : ℕ → Shares → Holdings → Holdings
with_security code quantity h = put_securities (h.securities ++ (with_outside quantity.0 (new_security code quantity) ∷ [])) h
