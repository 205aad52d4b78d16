-- The accounts' words as a map from accounts to balances, and what is kept true of them.
use Rattle.std.specs.Prelude.{if◌then◌else◌, ℕ, ◌+◌, ◌^◌, ◌≤◌, ◌<◌, List, [], ◌∷◌, ◌≡◌, length, get_or}
use Rattle.plain.specs.Lists.{◌is◌, ◌below◌}
use Rattle.rulebook.specs.Ledger.{Holdings}
use Rattle.rulebook.specs.declared.Account.{Account}
use Rattle.rulebook.specs.Ranges.{AccountInRange}
use Rattle.words.specs.Tables.{rows, sum_of, value_of, KeysOnce, with_row, without_row}
use Rattle.accounts.specs.Keys.{key_of, in_range}

-- the balances are the column that starts at word 257
abbrev pub BALANCES : ℕ
BALANCES = 257

abbrev pub balance_at : List ℕ → ℕ → ℕ
balance_at accounts i = get_or accounts (i + BALANCES) 0

-- the words with an account more, and without the one at i
abbrev pub opened : List ℕ → (key balance : ℕ) → List ℕ
opened accounts key balance = with_row ((1, key) ∷ (BALANCES, balance) ∷ []) accounts

abbrev pub removed : List ℕ → ℕ → List ℕ
removed accounts i = without_row (1 ∷ BALANCES ∷ []) i accounts

-- what an account holds: 0 where there is none
unfoldable pub balance_of : List ℕ → Account → ℕ
balance_of accounts a = if in_range a then value_of BALANCES accounts (key_of a) else 0

-- the holdings with the accounts that the words hold
abbrev pub with_accounts : List ℕ → Holdings → Holdings
with_accounts accounts h = record { securities = h.securities; balance = balance_of accounts; accounts = rows accounts; cash = h.cash }

-- kept true: room for as many accounts as there are, no key twice, no balance of 0, each key that of an account in range
pub record Kept (accounts : List ℕ) : Type 0 where
  pub long : length accounts ≡ 513
  pub size : rows accounts ≤ 256
  pub once : KeysOnce accounts
  pub some : sum_of BALANCES (λ key balance. if balance is 0 then 1 else 0) accounts ≡ 0
  pub keys : sum_of BALANCES (λ key balance. if key below 2 ^ 62 then 0 else 1) accounts ≡ 0

-- a credit that fits, by the account's balance and the number of accounts: the balance stays a word, and where an account is to be opened there is room
pub record CreditFits (a : Account) (balance accounts quantity : ℕ) : Type 0 where
  pub named : AccountInRange a
  pub some : 0 < quantity
  pub word : balance + quantity < 2 ^ 64
  pub room : balance ≡ 0 → accounts < 256
