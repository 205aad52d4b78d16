-- What is proved of the lists of a sheet: each is in ascending order, has everything that is to be listed, and nothing else.
use Rattle.std.specs.Prelude.{ℕ, ◌+◌, ◌*◌, ◌-◌, ◌<◌, Bool, true, List, [], ◌∷◌, ◌≡◌}
use Rattle.plain.specs.Lists.{Each}
use Rattle.rulebook.specs.Ledger.{Holdings, Ledger, Requests}
use Rattle.rulebook.specs.Premise.{CashFits}
use Rattle.rulebook.specs.Ranges.{AccountInRange}
use Rattle.rulebook.specs.declared.Account.{Account}
use Rattle.accounts.specs.Keys.{key_of}
use Rattle.requests.specs.Packed.{ReferenceInRange}
use Rattle.requests.specs.Packed.{key_of as request_key}
use Rattle.listing.specs.Listed.{is_listed, has_cash, has_open, accounts_listed, cash_listed, requests_listed}

module _ {A : Type 0} where
  -- each has a greater number than the one before it
  unfoldable pub Ascending : (number_of : A → ℕ) → List A → Type 0
  Ascending number_of [] = Unit {0}
  Ascending number_of (x ∷ rest) = Each (λ y. number_of x < number_of y) rest × Ascending number_of rest

  -- it stands in a list
  pub data Among (x : A) : List A → Type 0 where
    here : {rest : List A} → Among x (x ∷ rest)
    later : {y : A} {rest : List A} → Among x rest → Among x (y ∷ rest)

  -- of all that can be named, a list by number has each that passes the test, and no other
  pub record Complete (number_of : A → ℕ) (Named : A → Type 0) (test : A → Bool) (list : List A) : Type 0 where
    pub ordered : Ascending number_of list
    pub each : (x : A) → Named x → test x ≡ true → Among x list
    pub no_other : Each (λ x. Named x × (test x ≡ true)) list

-- by security, member, type and shareholder
abbrev pub AccountsListed : Holdings → Type 0
AccountsListed h = Complete key_of AccountInRange (is_listed h) (accounts_listed h)

-- by member, then currency: members 1 to 64, currencies 1 and 2
abbrev pub cash_number : (member_and_currency : ℕ × ℕ) → ℕ
cash_number who = (who.0 - 1) * 2 + (who.1 - 1)

abbrev pub CashListed : Holdings → Type 0
CashListed h = Complete cash_number (λ who. CashFits who.0 who.1) (has_cash h) (cash_listed h)

-- by member, then reference: all that a record can name
abbrev pub request_number : (member_and_reference : ℕ × ℕ) → ℕ
request_number who = request_key who.0 who.1

abbrev pub RequestsListed : Requests → Type 0
RequestsListed r = Complete request_number (λ who. ReferenceInRange who.0 who.1) (has_open r) (requests_listed r)

-- of a book that meets the rulebook's premise, nothing is left out, whatever its number is
pub record NothingLeftOut (b : Ledger) : Type 0 where
  pub accounts : (a : Account) → is_listed b.holdings a ≡ true → Among a (accounts_listed b.holdings)
  pub cash : (who : ℕ × ℕ) → has_cash b.holdings who ≡ true → Among who (cash_listed b.holdings)
  pub requests : (who : ℕ × ℕ) → has_open b.requests who ≡ true → Among who (requests_listed b.requests)
