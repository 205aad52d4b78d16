-- The walks over the accounts and over the requests of a book: what they pass makes the lists. Assumes nothing.
use native.Mathlib.Omega.{arith}
use Rattle.rulebook.specs.Ledger.{Ledger}
use Rattle.rulebook.specs.Premise.{Premise}
use Rattle.book.specs.Keys.{account_limit, account_of, has_balance, request_limit, member_of, reference_of, is_open}
use Rattle.listing.specs.ByNumber.{account_listed, request_listed}
use Rattle.listing.specs.Listed.{accounts_listed, requests_listed}
use Rattle.listing.proofs.ByNumber.{account_counted, accounts_listed_lem, accounts_counted, request_counted, requests_listed_lem, requests_counted}
use Rattle.listing.proofs.HeldBack.{empty_not_listed, not_open, counted-once}
use Rattle.listing.proofs.Rows.{Walk}

module _ (b : Ledger) (p : Premise b) where
  pub accounts_walk : Walk (has_balance b.holdings.balance) account_limit (account_listed b.holdings) (account_counted b.holdings) 256
      (accounts_listed b.holdings)
  accounts_walk = record {
    one = λ k. counted-once (b.holdings.balance (account_of k));
    few = omega (arith, accounts_counted b.holdings, p.counted, p.sizes.accounts);
    nothing = empty_not_listed b.holdings;
    listed = accounts_listed_lem b.holdings;
  }

  pub requests_walk : Walk (is_open b.requests.asked) request_limit (request_listed b.requests) (request_counted b.requests) 16
      (requests_listed b.requests)
  requests_walk = record {
    one = λ k. counted-once (b.requests.asked (member_of k) (reference_of k)).quantity.0;
    few = omega (arith, requests_counted b.requests, p.numbered, p.sixteen);
    nothing = not_open b.requests;
    listed = requests_listed_lem b.requests;
  }
