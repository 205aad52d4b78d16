-- What is known of an order that was read: its accounts can be named, its cash has a place, its quantity is not 0. Assumes nothing.
use Prim.Native.Nat.{ℕ, ◌≤◌}
use mathlib.Core.Path.{◌≡◌, refl}
use mathlib.Core.Bool.{Bool, true, not, ◌&&◌}
use mathlib.Core.List.{◌++◌}
use native.Mathlib.Omega.{arith}
use borrow.Author.Tests.{le-leb, not-false}
use Rattle.plain.specs.Lists.{◌is◌, ◌at_most◌, within, some}
use Rattle.rulebook.specs.TypeTable.{requested}
use Rattle.rulebook.specs.Ledger.{account_of, request_account}
use Rattle.rulebook.specs.Premise.{CashFits}
use Rattle.rulebook.specs.Field as Field
use Rattle.rulebook.specs.Field.{always, rule_in}
use Rattle.rulebook.specs.Forms.{Form, forms, new_request, row_of, used, least}
use Rattle.rulebook.specs.declared.Order.{Order}
use Rattle.rulebook.proofs.ByCall.{HasForm, by_row}
use Rattle.rulebook.proofs.Orders.{OrderFits, Ranges, read_fits, read_ranges, needs, needed}
use Rattle.rulebook.specs.Ranges.{AccountInRange}
use Rattle.book.specs.Keys.{ReferenceInRange}
use Rattle.checking.specs.Given.{WasRead}

-- forms 3 to 9 have a quantity
without_quantity : ℕ → Form → Bool
without_quantity n f =
    let rules = always ++ f.fields in
    within 3 9 n && not (some (λ rule. Field.quantity is rule.place) rules && 1 at_most (rule_in rules Field.quantity).least)

quantity-needed : (n : ℕ) → HasForm n → 3 ≤ n → n ≤ 9 → needs n Field.quantity ≡ true
unfolding without_quantity used least
quantity-needed n h l u = not-false _ (simp (le-leb 3 n l, le-leb n 9 u) at (by_row without_quantity (unfold forms in refl) n h))

module _ (o : Order) (w : WasRead o) where
  pub fits : OrderFits o
  fits = read_fits w.octets o w.read

  pub ranges : Ranges o
  ranges = read_ranges w.octets o w.read

  pub debited_named : AccountInRange (account_of o.security o.debited)
  unfolding account_of
  debited_named = record { security = fits.security; member = fits.debited.member; typ = fits.debited.typ; shareholder = fits.debited.shareholder }

  pub credited_named : AccountInRange (account_of o.security o.credited)
  unfolding account_of
  credited_named = record { security = fits.security; member = fits.credited.member; typ = fits.credited.typ; shareholder = fits.credited.shareholder }

  -- a pay-in's currency, and whose cash a pay-out takes
  pub paid_currency : o.form ≡ 10 → (1 ≤ o.currency) × (o.currency ≤ 2)
  unfolding used least forms row_of
  paid_currency e = ranges.currency (needed 10 Field.currency o e refl)

  pub payer : o.form ≡ 11 → CashFits o.debited.member o.currency
  unfolding used least forms row_of
  payer e =
      let m = ranges.debited (needed 11 Field.debited_member o e refl) in
      let c = ranges.currency (needed 11 Field.currency o e refl) in
      record { member_least = m.0; member_most = m.1; currency_least = c.0; currency_most = c.1 }

  pub some-quantity : 3 ≤ o.form → o.form ≤ 9 → 1 ≤ o.quantity.0
  some-quantity l u = (ranges.quantity (quantity-needed o.form ranges.form l u)).0

  -- a request's quantity, the account of type 50 that it credits, and what it is open under
  pub requested-quantity : o.form ≡ 19 → 1 ≤ o.quantity.0
  unfolding used least forms row_of
  requested-quantity e = (ranges.quantity (needed 19 Field.quantity o e refl)).0

  pub requesting_named : (today : ℕ) → AccountInRange (request_account requested o.debited.member (new_request today o))
  unfolding request_account
  requesting_named today =
      record { security = fits.security; member = fits.debited.member; typ = omega arith; shareholder = fits.debited.shareholder }

  pub reference-named : ReferenceInRange o.debited.member o.reference
  reference-named = record { member_most = fits.debited.member; reference_most = fits.reference }
