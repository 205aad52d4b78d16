-- Room for one more account or item, in the book as it is before a call.
use Rattle.std.specs.Prelude.{ℕ, ◌+◌, ◌≡◌, Bool, false, ◌&&◌, ◌||◌, length}
use Rattle.plain.specs.Lists.{◌is◌, ◌is_not◌, ◌below◌, some, first}
use Rattle.rulebook.specs.Ledger.{Ledger}
use Rattle.rulebook.specs.Waiting.{single_of}
use Rattle.rulebook.specs.Matching.{tolerance, pairs_with}
use Rattle.rulebook.specs.Refusals.{wrong_pair, wrong_parties, wrong_request, too_little, order_tests, request_tests}
use Rattle.rulebook.specs.declared.Account.{Account}
use Rattle.rulebook.specs.declared.Order.{Order}

-- accounts plus items leave no room for one more
abbrev pub is_full : Ledger → Bool
is_full book = 255 below (book.holdings.accounts + length book.waiting)

-- the waiting list, or accounts plus items, leave no room for one more item
abbrev pub is_list_full : Ledger → Bool
is_list_full book = 63 below length book.waiting || is_full book

-- a waiting single pairs with the arriving one of an order
abbrev pub is_matched : Ledger → Order → Bool
is_matched book order = some (pairs_with (tolerance book.rate order.currency) (single_of order)) book.waiting

-- shares that go from one account to another leave a rest in the first and open the second, for which there is no room
abbrev pub no_room_between : Ledger → (from to : Account) → (quantity : ℕ) → Bool
no_room_between book from to quantity = book.holdings.balance to is 0 && book.holdings.balance from is_not quantity && is_full book

-- the order's stage lets the order pass, and the requests' stage
abbrev pub OrderPassed : Ledger → Order → Type 0
OrderPassed book order = first (order_tests book.holdings book.day.number order) ≡ 0

abbrev pub RequestPassed : Ledger → Order → Type 0
RequestPassed book order = first (request_tests book.requests book.day.number order) ≡ 0

-- what refusal 18 is asked after: 11, 12, 19 and 16 do not apply, so that shares move between two accounts, and the one that they leave has them
pub record SidesPassed (book : Ledger) (order : Order) : Type 0 where
  pub types : wrong_pair order ≡ false
  pub parties : wrong_parties order ≡ false
  pub request : wrong_request book.requests order ≡ false
  pub enough : too_little book.holdings book.waiting order ≡ false
