-- What is known of a book and an order that no refusal applies to, as the book's functions ask for it. Assumes nothing.
use Prim.Native.Nat.{ℕ, ◌+◌, ◌≤◌, ◌<◌, ◌^◌}
use mathlib.Core.Path.{◌≡◌, refl, sym, ◌∙◌}
use mathlib.Core.Bool.{false}
use mathlib.Core.List.{List}
use native.Mathlib.Omega.{arith}
use lib.ListN.{length}
use borrow.Author.Tests.{ltb-false, eq-eqb, le-leb}
use Rattle.plain.proofs.Tests.{not-second}
use Rattle.plain.specs.Lists.{◌is◌, ◌below◌}
use Rattle.rulebook.specs.Ledger.{Ledger, account_of, same_account, admitted, outside_of, held_of}
use Rattle.rulebook.specs.Premise.{CashFits}
use Rattle.rulebook.specs.Field as Field
use Rattle.rulebook.specs.Forms.{forms, row_of, used, least}
use Rattle.rulebook.specs.declared.Account.{Account}
use Rattle.rulebook.specs.declared.Order.{Order}
use Rattle.rulebook.proofs.Orders.{little_parts, debit-enough, not_admitted, needed}
use Rattle.rulebook.proofs.Bounds.{balance_fits, balance_counted, count_fits, outside-fits, cash_fits}
use Rattle.rulebook.proofs.Space.{admit-space, deposit-space, transfer-space, sides_apart}
use Rattle.accounts.specs.Map.{CreditFits}
use Rattle.rows.specs.Widths as rows
use Rattle.book.specs.Meaning.{ledger_of}
use Rattle.checking.specs.Given.{Given}
use Rattle.checking.proofs.Passed.{known}
use Rattle.checking.proofs.Orders.{fits, ranges, debited_named, credited_named, some-quantity}
use Rattle.booking.specs.Fits.{ShiftFits, LeaveFits}

-- a member's cash as a row names it, and member 0
pub cash_row_lem : (m c : ℕ) → CashFits m c → rows.CashInRange m c × rows.CashInRange 0 c
cash_row_lem m c f = (
  record { member_fits = omega (arith, f.member_most); currency_fits = omega (arith, f.currency_most) },
  record { member_fits = omega arith; currency_fits = omega (arith, f.currency_most) },
)

module _ (book : List ℕ) (o : Order) (g : Given book o) where
  abbrev b : Ledger
  b = ledger_of book

  abbrev from : Account
  from = account_of o.security o.debited

  abbrev to : Account
  to = account_of o.security o.credited

  abbrev room : ℕ
  room = b.holdings.accounts + length b.waiting

  -- ---- form 2

  pub new_security_lem : o.form ≡ 2 → (length b.holdings.securities < 32) × (admitted o.security b.holdings ≡ false)
  unfolding admitted
  new_security_lem e =
      let full = ltb-false 31 (length b.holdings.securities) (sym (admit-space b o g.kept.premise.sizes e) ∙ (known g).space) in
      (omega (arith, full), not_admitted b o e (known g).security)

  -- ---- forms 3 and 4

  pub deposit-enough : o.form ≡ 3 → o.quantity.0 ≤ outside_of o.security b.holdings
  deposit-enough e = ltb-false _ _ (not-second _ _ (little_parts b o (known g).little).0 (eq-eqb o.form 3 e))

  -- none of it can pass what was issued
  pub deposit-held : held_of o.security b.holdings + o.quantity.0 < 2 ^ 64
  deposit-held = omega (arith, count_fits b g.kept.premise o.security, (fits o g.read).quantity)

  pub deposit-fits : o.form ≡ 3 → CreditFits to (b.holdings.balance to) b.holdings.accounts o.quantity.0
  deposit-fits e =
      let l : 3 ≤ o.form = omega (arith, e) in
      let u : o.form ≤ 9 = omega (arith, e) in
      let q = some-quantity o g.read l u in
      let full = sym (deposit-space b o g.kept.premise.sizes e q) ∙ (known g).space in
      record {
        named = credited_named o g.read;
        some = q;
        word = omega (arith, balance_fits b g.kept.premise to, (fits o g.read).quantity);
        room = λ z. omega (arith, ltb-false 255 room (not-second (b.holdings.balance to is 0) (255 below room) full (eq-eqb _ 0 z)));
      }

  pub withdrawal_fits : o.form ≡ 4 → {x : Account} → x ≡ from → LeaveFits b x o.quantity.0
  unfolding account_of
  withdrawal_fits e f = rw f (record {
    named = debited_named o g.read;
    some = some-quantity o g.read (omega (arith, e)) (omega (arith, e));
    enough = debit-enough b o (known g).little (rw e);
    word = omega (arith, outside-fits b g.kept.premise o.security, (fits o g.read).quantity);
    held = omega (arith, debit-enough b o (known g).little (rw e), balance_counted b g.kept.premise from);
  })

  -- ---- forms 5 to 9

  module _ (l : 5 ≤ o.form) (u : o.form ≤ 9) where
    enough : o.quantity.0 ≤ b.holdings.balance from
    enough = debit-enough b o (known g).little (rw (le-leb 4 o.form (omega (arith, l)), le-leb o.form 9 u))

    quantity : 1 ≤ o.quantity.0
    quantity = some-quantity o g.read (omega arith) u

    apart : same_account to from ≡ false
    apart = sides_apart b o l u (known g).types (known g).parties

    pub transfer-fits : {x y : Account} → x ≡ from → y ≡ to → ShiftFits b x y o.quantity.0
    transfer-fits e f = rw (e, f) (record {
      from_named = debited_named o g.read;
      to_named = credited_named o g.read;
      apart = apart;
      some = quantity;
      enough = enough;
      word = omega (arith, balance_fits b g.kept.premise to, (fits o g.read).quantity);
      size = g.kept.premise.sizes.accounts;
      room = sym (transfer-space b o g.kept.premise.sizes l u quantity enough apart) ∙ (known g).space;
    })

  -- ---- forms 10 and 11

  pub payee : o.form ≡ 10 → CashFits o.credited.member o.currency
  unfolding used least forms row_of
  payee e =
      let m = (ranges o g.read).credited (needed 10 Field.credited_member o e refl) in
      let c = (ranges o g.read).currency (needed 10 Field.currency o e refl) in
      record { member_least = m.0; member_most = m.1; currency_least = c.0; currency_most = c.1 }

  pub pay_in_fits : b.holdings.cash o.credited.member o.currency + o.amount.0 < 2 ^ 64
  pay_in_fits = omega (arith, cash_fits b g.kept.premise o.credited.member o.currency, (fits o g.read).amount)

  pub pay_out_enough : o.form ≡ 11 → o.amount.0 ≤ b.holdings.cash o.debited.member o.currency
  pay_out_enough e = ltb-false _ _ (not-second _ _ (little_parts b o (known g).little).2 (eq-eqb o.form 11 e))
