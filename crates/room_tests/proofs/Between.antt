-- Refusal 18 of the forms that move shares from one account to another: there is no room between the two. Assumes nothing.
use Prim.Native.Nat.{ℕ, ◌≤◌}
use mathlib.Core.Path.{◌≡◌, ap, ap₂, ◌∙◌}
use mathlib.Core.Bool.{true, false}
use native.Mathlib.Omega.{arith}
use Rattle.plain.specs.Lists.{within}
use Rattle.rulebook.specs.AccountTypes.{is_outside}
use Rattle.rulebook.specs.TypeTable.{requested}
use Rattle.rulebook.specs.Ledger.{Ledger, account_of, request_account}
use Rattle.rulebook.specs.Forms.{new_request, ended_request}
use Rattle.rulebook.specs.Premise.{Premise}
use Rattle.rulebook.specs.Refusals.{no_space}
use Rattle.rulebook.specs.declared.Account.{Account}
use Rattle.rulebook.specs.declared.Order.{Order}
use Rattle.rulebook.proofs.Orders.{debit-enough, is_ended}
use Rattle.rulebook.proofs.Space.{transfer-space, sides_apart, request_space, request_apart, ending-space, ending-apart}
use Rattle.rulebook.proofs.Within.{within-parts, wider}
use Rattle.checking.specs.Given.{WasRead}
use Rattle.checking.proofs.Orders.{some-quantity, requested-quantity}
use Rattle.checking.proofs.Endings.{ended_some, ended_covered}
use Rattle.room_tests.specs.Room.{no_room_between, SidesPassed}

-- of accounts and a quantity that are the same
pub same_room :
    (b : Ledger) {from to here there : Account} {n k : ℕ} → from ≡ here → to ≡ there → n ≡ k → no_room_between b from to n ≡ no_room_between b here there k
same_room b {from} {to} {here} {there} {n} e f g =
    ap₂ (λ (x y : Account). no_room_between b x y n) e f ∙ ap (no_room_between b here there) g

module _ (b : Ledger) (o : Order) (w : WasRead o) (p : Premise b) (passed : SidesPassed b o) where
  pub transfers :
      within 5 9 o.form ≡ true → no_space b o ≡ no_room_between b (account_of o.security o.debited) (account_of o.security o.credited) o.quantity.0
  transfers e =
      let r = within-parts 5 9 o.form e in
      let l : 3 ≤ o.form = omega (arith, r.0) in
      transfer-space b o p.sizes r.0 r.1 (some-quantity o w l r.1) (debit-enough b o passed.enough (rw (wider o.form e)))
      (sides_apart b o r.0 r.1 passed.types passed.parties)

  pub requests :
      o.form ≡ 19 → no_space b o
      ≡ no_room_between b (account_of o.security o.debited) (request_account requested o.debited.member (new_request b.day.number o)) o.quantity.0
  requests e =
      request_space b o p.sizes e (requested-quantity o w e) (debit-enough b o passed.enough (rw e)) (request_apart b o e passed.types)

  -- to a type of paper
  pub ends-in_paper :
      o.form ≡ 20 → (is_outside o.credited.typ) ≡ false
      → no_space b o
      ≡ no_room_between b (request_account requested o.debited.member (ended_request b o)) (request_account o.credited.typ o.debited.member (ended_request b o))
      (ended_request b o).quantity.0
  ends-in_paper e n =
      ending-space b o p.sizes e n (ended_some b o w p e passed.request) (ended_covered b o w p e passed.request)
      (ending-apart b o n (is_ended b o e passed.request).1)
