-- `movements::deposit` meets its contract. Assumes nothing.
use mathlib.Core.Path.{sym, subst}
use native.Mathlib.Omega.{arith}
use borrow.Author.Rules.{rules}
use Rattle.rulebook.specs.Movements.{credit}
use Rattle.rulebook.specs.declared.Account.{Account}
use Rattle.rulebook.specs.Ranges.{AccountInRange}
use Rattle.accounts.specs.Map.{CreditFits}
use Rattle.book.specs.Meaning.{ledger_of}
use Rattle.checking.proofs.Orders.{fits, credited_named}
use Rattle.movements.proofs.Known.{deposit-fits, deposit-enough, deposit-held}
use Rattle.booking.proofs.Moved.{outside-row}
use Rattle.movements.proofs.Moved.{did_deposit, counts-kept}
use Rattle.movements.proofs.deposit.Statement.{statement}
use Rattle.movements.proofs.deposit.Tie as tie

abbrev start : tie.After-account_of-to → tie.Start
start c = c.before.before.before.before.before

abbrev to : tie.After-credit → tie.After-account_of-to
to c = c.before.before.before

abbrev credited : tie.After-enter_custody → tie.After-credit
credited c = c.before.before.before.before.before

abbrev debited : tie.After-write_shares-arg-1 → tie.After-enter_custody
debited c = c.before.before.before

credit-requires : tie.Need-credit-requires
credit-requires c κs =
    let s = start c.before.before in
    let h = (ledger_of s.args.book.now).holdings in (
      s.requires.0.given.kept.stored,
      subst (λ (a : Account). CreditFits a (h.balance a) h.accounts s.args.order.quantity.0) (sym c.before.account_of-to.ensures)
          (deposit-fits _ _ s.requires.0.given s.requires.1),
    )

enter-custody-requires : tie.Need-enter_custody-requires
enter-custody-requires c κs =
    let credited = c.before.before.before in
    let s = start (to credited.before) in
    let same = counts-kept (ledger_of s.args.book.now) _ _ _ s.args.order.security credited.credit.ensures in (
      credited.credit.ensures.stored,
      rw same.0 (deposit-enough _ _ s.requires.0.given s.requires.1),
      rw same.1 (deposit-held _ _ s.requires.0.given),
    )

write-shares-requires : tie.Need-write_shares-requires
write-shares-requires c κs =
    let to = to (credited (debited c.before)) in
    let s = start to in (
      omega (arith, s.requires.0.room),
      subst AccountInRange (sym to.before.outside_account-outside.ensures) (outside-row 91 _ (omega arith) (fits _ s.requires.0.given.read).security),
      subst AccountInRange (sym to.account_of-to.ensures) (credited_named _ s.requires.0.given.read),
    )

returns : tie.Need-returns
returns c =
    let wrote = c.before.before.before in
    let debited = debited wrote.before.before in
    let credited = credited debited in
    let to = to credited in
    let s = start to in
    did_deposit (ledger_of s.args.book.now) s.args.order c.two_rows.ensures credited.credit.ensures debited.enter_custody.ensures
    to.before.outside_account-outside.ensures to.account_of-to.ensures wrote.write_shares.ensures

pub deposit_spec : {M : Type 1} → statement M
deposit_spec =
    tie.close
    (tie.spec
    (λ c κs. search rules)
    (λ c κs. search rules)
    credit-requires
    enter-custody-requires
    write-shares-requires
    (λ c κs. search rules)
    (λ c. search rules)
    (λ c. search rules)
    returns)
