-- What is listed of an account, of a member's cash and of a request, by its number. Each is proved to make the lists of `Listed`.
use Rattle.std.specs.Prelude.{ℕ, ◌+◌, ◌/◌, ◌%◌, List}
use Rattle.rulebook.specs.Ledger.{Holdings, Requests}
use Rattle.rulebook.specs.declared.Account.{Account}
use Rattle.book.specs.Keys.{account_of, member_of, reference_of}
use Rattle.listing.specs.Listed.{if_so, is_listed, has_cash, has_open}

abbrev pub account_listed : Holdings → ℕ → List Account
account_listed h k = if_so (is_listed h (account_of k)) (account_of k)

-- a member's currencies have two numbers that follow each other
abbrev pub cash_limit : ℕ
cash_limit = 128

-- the member and the currency of a number
abbrev pub cash_of : ℕ → ℕ × ℕ
cash_of k = (k / 2 + 1, k % 2 + 1)

abbrev pub cash_listed_at : Holdings → ℕ → List (ℕ × ℕ)
cash_listed_at h k = if_so (has_cash h (cash_of k)) (cash_of k)

-- the member and the reference of a number
abbrev pub request_of : ℕ → ℕ × ℕ
request_of k = (member_of k, reference_of k)

abbrev pub request_listed : Requests → ℕ → List (ℕ × ℕ)
request_listed r k = if_so (has_open r (request_of k)) (request_of k)
