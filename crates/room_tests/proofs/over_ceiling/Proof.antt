-- `room_tests::over_ceiling` meets its contract. Assumes nothing.
use native.Mathlib.Omega.{arith}
use borrow.Author.Tests.{eq-eqb, ne_eqb}
use Rattle.rulebook.specs.Refusals.{over_ceiling}
use Rattle.checking.proofs.Orders.{fits, paid_currency}
use Rattle.room_tests.proofs.over_ceiling.Statement.{statement}
use Rattle.room_tests.proofs.over_ceiling.Tie as tie

returns : tie.Need-returns-then-order-ne10
unfolding over_ceiling
returns c = rw (ne_eqb _ _ c.if-order-ne10.true)

cash-total-requires : tie.Need-cash_total-total-requires
cash-total-requires c κs =
    let s = c.before.before.before in
    let currency = paid_currency _ s.requires.1 c.if-order-ne10.false in
    (s.requires.0.stored, currency.0, currency.1, omega (arith, s.requires.0.premise.ceiling s.args.order.currency))

add-result : tie.Need-overflow_add-result
add-result c =
    let s = c.before.before.before.before.before.before in
    omega (arith, c.before.before.cash_total-total.ensures, s.requires.0.premise.ceiling s.args.order.currency, (fits _ s.requires.1).amount)

returns-2 : tie.Need-returns
unfolding over_ceiling
returns-2 c = rw (eq-eqb _ _ c.before.before.before.if-order-ne10.false, c.before.before.cash_total-total.ensures)

pub over_ceiling_spec : {M : Type 1} → statement M
over_ceiling_spec = tie.close (tie.spec returns cash-total-requires add-result returns-2)
