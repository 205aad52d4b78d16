-- What the cycle needs of a ledger, and what the rulebook's premise gives.
use Rattle.std.specs.Prelude.{ℕ, ◌+◌, ◌^◌, ◌≤◌, ◌<◌, length}
use Rattle.rulebook.specs.Shortfall.{seller, buyer}
use Rattle.rulebook.specs.Ledger.{Ledger}
use Rattle.rulebook.specs.Premise.{CashFits}
use Rattle.rulebook.specs.declared.Account.{Account}
use Rattle.rulebook.specs.declared.Item.{Item}
use Rattle.rulebook.specs.Ranges.{AccountInRange}
use Rattle.marks.specs.Marks.{item_in}

-- an item whose legs can be booked
pub record Bookable (t : Item) : Type 0 where
  pub sells : AccountInRange (seller t)
  pub buys : AccountInRange (buyer t)
  pub some : 0 < t.quantity.0
  pub quantity : t.quantity.0 < 2 ^ 40
  pub pays : CashFits t.credited.member t.currency
  pub paid : CashFits t.debited.member t.currency
  pub amount : t.amount.0 < 2 ^ 40

-- each waiting item is such, there is room for the accounts that they may open, and what they bring fits a word
pub record Ready (b : Ledger) : Type 0 where
  pub size : length b.waiting ≤ 64
  pub room : b.holdings.accounts + length b.waiting ≤ 256
  pub bookable : (k : ℕ) → k < length b.waiting → Bookable (item_in b.waiting k)
  pub balances : (a : Account) → b.holdings.balance a < 2 ^ 63
  pub amounts : (member currency : ℕ) → b.holdings.cash member currency < 2 ^ 63
