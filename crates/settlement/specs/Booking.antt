-- What booking a trade, and all marked trades, needs.
use Rattle.std.specs.Prelude.{ℕ, ◌+◌, ◌^◌, ◌≤◌, ◌<◌, List, length}
use Rattle.rulebook.specs.Movements.{account, cash_of}
use Rattle.rulebook.specs.Shortfall.{seller, buyer, takes}
use Rattle.rulebook.specs.Ledger.{Ledger, Holdings}
use Rattle.rulebook.specs.declared.Account.{Account}
use Rattle.rulebook.specs.declared.Item.{Item}
use Rattle.marks.specs.Marks.{Marked, over, item_in}
use Rattle.legs.specs.Ready.{Bookable}

-- what a trade brings can be booked
pub record CanCredit (t : Item) (h : Holdings) : Type 0 where
  pub bookable : Bookable t
  pub room : h.accounts < 256
  pub shares : h.balance (buyer t) + t.quantity.0 < 2 ^ 64
  pub cash : h.cash t.debited.member t.currency + t.amount.0 < 2 ^ 64

-- what a trade takes can be booked
pub record CanDebit (t : Item) (h : Holdings) : Type 0 where
  pub bookable : Bookable t
  pub shares : t.quantity.0 ≤ h.balance (seller t)
  pub cash : t.amount.0 ≤ h.cash t.credited.member t.currency

-- what the marked trades take is there
pub record Covered (b : Ledger) (marked : List Marked) : Type 0 where
  pub size : length b.waiting ≤ 64
  pub bookable : (k : ℕ) → k < length b.waiting → Bookable (item_in b.waiting k)
  pub shares : (a : Account) → over (takes (account a)) marked ≤ b.holdings.balance a
  pub cash : (member currency : ℕ) → over (takes (cash_of member currency)) marked ≤ b.holdings.cash member currency
