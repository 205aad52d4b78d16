-- What is known of a form 20 that ends an open request: its shares are there, and their accounts can be named. Assumes nothing.
use Prim.Native.Nat.{ℕ, ◌≤◌, ◌<◌, ◌^◌}
use mathlib.Core.Path.{◌≡◌}
use mathlib.Core.Bool.{false}
use native.Mathlib.Omega.{arith}
use Rattle.rulebook.specs.TypeTable.{requested}
use Rattle.rulebook.specs.Ledger.{Ledger, request_account}
use Rattle.rulebook.specs.Forms.{ended_request}
use Rattle.rulebook.specs.Refusals.{wrong_request}
use Rattle.rulebook.specs.Premise.{Premise, RequestFits}
use Rattle.rulebook.specs.Ranges.{AccountInRange}
use Rattle.rulebook.specs.declared.Order.{Order}
use Rattle.rulebook.proofs.Orders.{is_ended}
use Rattle.rulebook.proofs.Requests.{covered}
use Rattle.checking.specs.Given.{WasRead}
use Rattle.checking.proofs.Orders.{fits}

module _ (b : Ledger) (o : Order) (w : WasRead o) (p : Premise b) (e : o.form ≡ 20) (right : wrong_request b.requests o ≡ false) where
  pub ended_some : 1 ≤ (ended_request b o).quantity.0
  ended_some = (is_ended b o e right).0

  pub ended_covered : (ended_request b o).quantity.0 ≤ b.holdings.balance (request_account requested o.debited.member (ended_request b o))
  ended_covered = covered b o.debited.member o.reference p ended_some

  ended_fits : RequestFits b.day.number b.holdings o.debited.member o.reference (ended_request b o)
  ended_fits = p.requests o.debited.member o.reference ended_some

  named : (typ : ℕ) → typ < 2 ^ 8 → AccountInRange (request_account typ o.debited.member (ended_request b o))
  unfolding request_account
  named typ l = record {
    security = ended_fits.security;
    member = (fits o w).debited.member;
    typ = l;
    shareholder = ended_fits.named.shareholder_most;
  }

  pub awaiting-named : AccountInRange (request_account requested o.debited.member (ended_request b o))
  awaiting-named = named requested (omega arith)

  pub paper_named : AccountInRange (request_account o.credited.typ o.debited.member (ended_request b o))
  paper_named = named o.credited.typ (fits o w).credited.typ
