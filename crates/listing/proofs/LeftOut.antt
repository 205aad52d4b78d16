-- What a book that meets the premise has, a record can name: so no account, cash or request of it is left out. Assumes nothing.
use Prim.Native.Nat.{ℕ, ◌^◌, ◌<◌}
use native.Mathlib.Omega.{arith}
use mathlib.Core.Bool.{Bool, true, false, false≢true}
use mathlib.Core.List.{List, [], ◌∷◌}
use mathlib.Core.Path.{◌≡◌, refl}
use borrow.Author.Tests.{eqb-true}
use Rattle.plain.specs.Lists.{◌is◌, some, Each}
use Rattle.rulebook.specs.Ledger.{Ledger, admitted}
use Rattle.rulebook.specs.Premise.{Premise, SecurityFits, AccountFits}
use Rattle.rulebook.specs.Ranges.{AccountInRange}
use Rattle.rulebook.specs.declared.Account.{Account}
use Rattle.rulebook.specs.declared.Security.{Security}
use Rattle.rulebook.proofs.Types.{type_fits}
use Rattle.requests.specs.Packed.{ReferenceInRange}
use Rattle.listing.specs.Listed.{has_open}
use Rattle.listing.specs.Complete.{NothingLeftOut}
use Rattle.listing.proofs.Complete.{accounts_complete, cash_complete, requests_complete}
use Rattle.listing.proofs.HeldBack.{not_none, has-balance}

code_fits : (c : ℕ) (xs : List Security) → Each SecurityFits xs → some (λ s. s.code is c) xs ≡ true → c < 2 ^ 14
code_fits c [] fits found = absurd (false≢true found)
code_fits c (x ∷ rest) fits found = go (x.code is c) refl (code_fits c rest fits.1)
  where
    go : (b : Bool) → (x.code is c) ≡ b → (some (λ s. s.code is c) rest ≡ true → c < 2 ^ 14) → c < 2 ^ 14
    go true e others = omega (arith, eqb-true x.code c e, fits.0.code_most)
    go false e others = others (simp e at found)

module _ (b : Ledger) (p : Premise b) where
  account_named : (a : Account) → AccountFits b.holdings a → AccountInRange a
  unfolding admitted
  account_named a fits = record {
    security = code_fits a.security b.holdings.securities p.securities fits.security;
    member = omega (arith, fits.named.member_most);
    typ = type_fits a.typ fits.typ;
    shareholder = fits.named.shareholder_most;
  }

  request_named : (who : ℕ × ℕ) → has_open b.requests who ≡ true → ReferenceInRange who.0 who.1
  request_named who so =
      let fits = p.requests who.0 who.1 (not_none _ so) in
      record { member_most = omega (arith, fits.named.member_most); reference_most = fits.referenced.most }

  pub nothing_left_out : NothingLeftOut b
  nothing_left_out = record {
    accounts = λ a so. (accounts_complete b.holdings).each a (account_named a (p.accounts a (not_none _ (has-balance b.holdings a so)))) so;
    cash = λ who so. (cash_complete b.holdings).each who (p.cash who.0 who.1 (not_none _ so)) so;
    requests = λ who so. (requests_complete b.requests).each who (request_named who so) so;
  }
