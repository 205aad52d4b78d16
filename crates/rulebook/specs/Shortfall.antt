-- What is missing at a place where trades settle together (RULES 9.2 to 9.5).
use Rattle.std.specs.Prelude.{if◌then◌else◌, ℕ, ◌+◌, ◌-◌, Bool, ◌||◌, ◌&&◌, List, ◌≡◌}
use Rattle.plain.specs.Lists.{◌is◌, ◌is_not◌, some, total}
use Rattle.rulebook.specs.declared.Account.{Account}
use Rattle.rulebook.specs.declared.Item.{Item}
use Rattle.rulebook.specs.Ledger.{Holdings, account_of, same_account}
use Rattle.rulebook.specs.Movements.{Place, account, type91, type90, cash_of, member0, book_has}

-- the account that a trade debits, and the one that it credits
unfoldable pub seller : Item → Account
seller trade = account_of trade.security trade.debited

unfoldable pub buyer : Item → Account
buyer trade = account_of trade.security trade.credited

-- what a trade takes from a place: shares from its seller's account, cash from its buyer
unfoldable pub takes : Place → Item → ℕ
takes (account a) trade = if same_account (seller trade) a then trade.quantity.0 else 0
takes (type91 security) trade = 0
takes (type90 security) trade = 0
takes (cash_of member currency) trade = if trade.credited.member is member && trade.currency is currency then trade.amount.0 else 0
takes (member0 currency) trade = 0

-- and what it brings there
unfoldable pub brings : Place → Item → ℕ
brings (account a) trade = if same_account (buyer trade) a then trade.quantity.0 else 0
brings (type91 security) trade = 0
brings (type90 security) trade = 0
brings (cash_of member currency) trade = if trade.debited.member is member && trade.currency is currency then trade.amount.0 else 0
brings (member0 currency) trade = 0

-- RULES 9.2 to 9.4: by how much a position is below 0 with these trades; 0 where it is not
unfoldable pub missing : Holdings → (trades : List Item) → Place → ℕ
missing h trades place = total (takes place) trades - (book_has place h + total (brings place) trades)

-- nothing is short: no account at all, and no member's cash, misses anything
abbrev pub NothingShort : Holdings → (trades : List Item) → Type 0
NothingShort h trades = (place : Place) → missing h trades place ≡ 0

-- the two places that a trade debits
abbrev pub delivers : Item → Place
delivers trade = account (seller trade)

abbrev pub pays : Item → Place
pays trade = cash_of trade.credited.member trade.currency

-- what a trade lacks: the shares and the cash missing at these two
pub record Shortfall : Type 0 where
  pub shares : ℕ
  pub cash : ℕ

abbrev pub shortfall : Holdings → (trades : List Item) → Item → Shortfall
shortfall h trades trade = record { shares = missing h trades (delivers trade); cash = missing h trades (pays trade) }

abbrev pub lacks_some : Shortfall → Bool
lacks_some lack = lack.shares is_not 0 || lack.cash is_not 0

-- RULES 9.5: the trade draws on what is short
unfoldable pub debits_short : Holdings → (trades : List Item) → Item → Bool
debits_short h trades trade = lacks_some (shortfall h trades trade)

-- something is short: then one of the trades draws on it, for no balance is below 0 (`short_found` in `Theorems`)
unfoldable pub any_short : Holdings → (trades : List Item) → Bool
any_short h trades = some (debits_short h trades) trades
