-- The cash words as what each member has in each currency.
use Rattle.std.specs.Prelude.{if◌then◌else◌, ℕ, ◌+◌, ◌-◌, ◌*◌, Bool, ◌&&◌, List, get_or}
use Rattle.plain.specs.Lists.{within, sum_below}
use Rattle.rulebook.specs.Ledger.{Holdings}

-- where a member's cash in a currency stands
abbrev pub place : (member currency : ℕ) → ℕ
place member currency = 2 * (member - 1) + (currency - 1)

-- a member 1 to 64 and a currency 1 to 2
unfoldable pub kept : (member currency : ℕ) → Bool
kept member currency = within 1 64 member && within 1 2 currency

-- a member's cash in a currency: 0 where the book keeps none
unfoldable pub amount_of : List ℕ → (member currency : ℕ) → ℕ
amount_of cash member currency = if kept member currency then get_or cash (place member currency) 0 else 0

-- a currency's total over all members
unfoldable pub total_in : List ℕ → ℕ → ℕ
total_in cash currency = sum_below 64 (λ n. amount_of cash (n + 1) currency)

-- the holdings with the cash that the words hold
abbrev pub with_cash : List ℕ → Holdings → Holdings
with_cash cash h = record { securities = h.securities; balance = h.balance; accounts = h.accounts; cash = amount_of cash }
