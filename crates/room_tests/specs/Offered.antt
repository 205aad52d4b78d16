-- What the items that a sent cycle has fixed take from an account, and what they bring to it.
use Rattle.std.specs.Prelude.{if◌then◌else◌, ℕ}
use Rattle.rulebook.specs.Movements.{account}
use Rattle.rulebook.specs.Shortfall.{takes, brings}
use Rattle.rulebook.specs.declared.Account.{Account}
use Rattle.rulebook.specs.declared.Item.{Item}

abbrev pub takes_from : Account → Item → ℕ
takes_from a = takes (account a)

abbrev pub brings_to : Account → Item → ℕ
brings_to a = brings (account a)

-- nothing, of an item that none has fixed
abbrev pub if_fixed : (Item → ℕ) → Item → ℕ
if_fixed figure item = if item.sent then figure item else 0
