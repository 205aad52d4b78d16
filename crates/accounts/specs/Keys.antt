-- An account as one number: security, member, type and shareholder, as in a posting row.
use Rattle.std.specs.Prelude.{ℕ, ◌+◌, ◌*◌, ◌/◌, ◌%◌, ◌^◌, Bool, ◌&&◌}
use Rattle.plain.specs.Lists.{◌is_not◌, ◌below◌}
use Rattle.rulebook.specs.declared.Account.{Account}

abbrev pub key_of : Account → ℕ
key_of a = a.security * 2 ^ 48 + a.member * 2 ^ 38 + a.typ * 2 ^ 30 + a.shareholder

-- what `AccountInRange` says, as a test
unfoldable pub in_range : Account → Bool
in_range a = a.security below 2 ^ 14 && a.member below 2 ^ 10 && a.typ below 2 ^ 8 && a.shareholder below 2 ^ 30

-- keys are below this, and ascending keys are accounts in order of security, member, type and shareholder
abbrev pub key_limit : ℕ
key_limit = 2 ^ 62

-- the account of a key
abbrev pub account_of : ℕ → Account
account_of key = record { security = key / 2 ^ 48; member = key / 2 ^ 38 % 2 ^ 10; typ = key / 2 ^ 30 % 2 ^ 8; shareholder = key % 2 ^ 30 }

-- the account of a key is not empty
abbrev pub has_balance : (Account → ℕ) → (key : ℕ) → Bool
has_balance balance key = balance (account_of key) is_not 0
