-- What a record's fields and a row's fields can name: numbers below what their widths hold. What a book has is narrower, and stands in `Premise`.
use Rattle.std.specs.Prelude.{◌<◌, ◌^◌}
use Rattle.rulebook.specs.declared.Party.{Party}
use Rattle.rulebook.specs.declared.Account.{Account}

pub record PartyInRange (p : Party) : Type 0 where
  pub member : p.member < 2 ^ 10
  pub typ : p.typ < 2 ^ 8
  pub shareholder : p.shareholder < 2 ^ 30

pub record AccountInRange (a : Account) : Type 0 where
  pub security : a.security < 2 ^ 14
  pub member : a.member < 2 ^ 10
  pub typ : a.typ < 2 ^ 8
  pub shareholder : a.shareholder < 2 ^ 30
