-- Pay-ins with which nothing is short over a list of trades.
use Rattle.std.specs.Prelude.{if◌then◌else◌, ℕ, ◌+◌, ◌≤◌, Bool, true, not, ◌||◌, List, ◌≡◌}
use Rattle.plain.specs.Lists.{◌is_not◌, ◌below◌, some}
use Rattle.rulebook.specs.declared.Account.{Account}
use Rattle.rulebook.specs.declared.Item.{Item}
use Rattle.rulebook.specs.Ledger.{Holdings, cash_total}
use Rattle.rulebook.specs.Movements.{account, cash_of}
use Rattle.rulebook.specs.Shortfall.{missing, NothingShort, delivers, any_short}
use Rattle.rulebook.specs.Selection.{Entry, trades_in, full_selection}
use Rattle.rulebook.specs.Selected.{NoneLeft}

-- pay-ins: an amount for each member and currency
abbrev pub Amounts : Type 0
Amounts = (member currency : ℕ) → ℕ

unfoldable pub paid_in : Amounts → Holdings → Holdings
paid_in pay h = record { securities = h.securities; balance = h.balance; accounts = h.accounts; cash = λ m c. h.cash m c + pay m c }

-- pay-ins clear trades where no place misses anything once they are in
abbrev pub Clears : Holdings → List Item → Amounts → Type 0
Clears h trades pay = NothingShort (paid_in pay h) trades

-- and the test of it
unfoldable pub clears : Holdings → List Item → Amounts → Bool
clears h trades pay = not (any_short (paid_in pay h) trades)

-- ---- the least that clear

-- what each member's cash misses
unfoldable pub amounts : Holdings → List Item → Amounts
amounts h trades member currency = missing h trades (cash_of member currency)

-- an account is short
unfoldable pub shares_short : Holdings → List Item → Bool
shares_short h trades = some (λ t. missing h trades (delivers t) is_not 0) trades

-- with them the members would have more of a currency than a book may hold
unfoldable pub passes_ceiling : Holdings → Amounts → Bool
passes_ceiling h pay = above 1 || above 2
  where
    above : ℕ → Bool
    above currency = 1_000_000_000_000_000 below cash_total currency (paid_in pay h)

pub data Clearing : Type 0 where
  nothing_clears : Clearing
  pay_ins : Amounts → Clearing

unfoldable pub clearing : Holdings → List Item → Clearing
clearing h trades = if shares_short h trades || passes_ceiling h (amounts h trades) then nothing_clears else pay_ins (amounts h trades)

-- no pay-in moves shares
abbrev pub SharesEnough : Holdings → List Item → Type 0
SharesEnough h trades = (a : Account) → missing h trades (account a) ≡ 0

-- they clear the trades, and no others do with less of any member's in any currency
abbrev pub ClearsLeast : Holdings → List Item → Amounts → Type 0
ClearsLeast h trades pay = Clears h trades pay × ((other : Amounts) → Clears h trades other → (m c : ℕ) → pay m c ≤ other m c)

pub record ClearingLaws (h : Holdings) (trades : List Item) : Type 0 where
  -- pay-ins clear the trades exactly where no account is short and none is below its amount
  pub least : (pay : Amounts) → Clears h trades pay → SharesEnough h trades × ((m c : ℕ) → amounts h trades m c ≤ pay m c)
  pub enough : (pay : Amounts) → SharesEnough h trades → ((m c : ℕ) → amounts h trades m c ≤ pay m c) → Clears h trades pay
  -- so what is answered clears them, and is the least that does
  pub answer : (pay : Amounts) → clearing h trades ≡ pay_ins pay → ClearsLeast h trades pay
  -- the test finds every account that is short
  pub shares : shares_short h trades ≡ true → (a : Account) × (1 ≤ missing h trades (account a))
  pub no_shares : not (shares_short h trades) ≡ true → SharesEnough h trades

-- once the amounts are paid in, a selection takes every due trade
abbrev pub SendsAll : Holdings → List Entry → Type 0
SendsAll h es = NoneLeft es → SharesEnough h (trades_in es) → full_selection (paid_in (amounts h (trades_in es)) h) es ≡ es

-- ---- pay-ins that are not known exactly

pub data Verdict : Type 0 where
  always : Verdict
  never : Verdict
  depends : Verdict

-- the lows decide whether all clear, the highs whether any does
unfoldable pub verdict : Holdings → List Item → (low high : Amounts) → Verdict
verdict h trades low high = if clears h trades low then always else if clears h trades high then depends else never

-- pay-ins between the two
abbrev pub Between : (low high pay : Amounts) → Type 0
Between low high pay = (m c : ℕ) → (low m c ≤ pay m c) × (pay m c ≤ high m c)

-- what each verdict says of all of these
abbrev pub Means : Holdings → List Item → (low high : Amounts) → Verdict → Type 0
Means h trades low high always = (pay : Amounts) → Between low high pay → Clears h trades pay
Means h trades low high never = (pay : Amounts) → Between low high pay → ¬ Clears h trades pay
Means h trades low high depends = (¬ Clears h trades low) × Clears h trades high

pub record VerdictLaws (h : Holdings) (trades : List Item) (low high : Amounts) : Type 0 where
  pub holds : Means h trades low high (verdict h trades low high)
  -- and no other verdict is right
  pub only : ((m c : ℕ) → low m c ≤ high m c) → (v : Verdict) → Means h trades low high v → v ≡ verdict h trades low high
