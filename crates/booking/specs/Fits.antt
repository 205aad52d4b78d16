-- When shares can go from one account to another, and out of custody.
use Rattle.std.specs.Prelude.{ℕ, ◌+◌, ◌≤◌, ◌<◌, ◌^◌, false, ◌&&◌, ◌≡◌, length}
use Rattle.plain.specs.Lists.{◌is◌, ◌is_not◌, ◌below◌}
use Rattle.rulebook.specs.Ledger.{Ledger, same_account, outside_of, held_of}
use Rattle.rulebook.specs.Ranges.{AccountInRange}
use Rattle.rulebook.specs.declared.Account.{Account}

pub record ShiftFits (b : Ledger) (from to : Account) (quantity : ℕ) : Type 0 where
  pub from_named : AccountInRange from
  pub to_named : AccountInRange to
  pub apart : same_account to from ≡ false
  pub some : 1 ≤ quantity
  pub enough : quantity ≤ b.holdings.balance from
  pub word : b.holdings.balance to + quantity < 2 ^ 64
  -- an account is opened only where one is emptied or there is room
  pub size : b.holdings.accounts + length b.waiting ≤ 256
  pub room :
      (b.holdings.balance to is 0 && b.holdings.balance from is_not quantity && 255 below (b.holdings.accounts + length b.waiting)) ≡ false

pub record LeaveFits (b : Ledger) (from : Account) (quantity : ℕ) : Type 0 where
  pub named : AccountInRange from
  pub some : 1 ≤ quantity
  pub enough : quantity ≤ b.holdings.balance from
  pub word : outside_of from.security b.holdings + quantity < 2 ^ 64
  pub held : quantity ≤ held_of from.security b.holdings
