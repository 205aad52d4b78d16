-- The accounts that count a security.
use Rattle.std.specs.Prelude.{ℕ}
use Rattle.rulebook.specs.declared.Account.{Account}

-- types 90 and 91 of a security have member 0 and shareholder 0
abbrev pub outside_account : (typ security : ℕ) → Account
outside_account typ security = record { security = security; member = 0; typ = typ; shareholder = 0 }
