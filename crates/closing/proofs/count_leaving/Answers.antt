-- `closing::count_leaving` meets its contract. Assumes nothing.
use Rattle.std.proofs.Common.{arith}
use native.Mathlib.Nat.{add-zero}
use borrow.Author.Tests.{eq-eqb, ne_eqb}
use Rattle.closing.specs.Closing.{counted_one}
use Rattle.closing.proofs.Closing.{item-sides}
use Rattle.closing.proofs.count_leaving.Goals as goal

pub overflow_add-result : goal.overflow_add-result
overflow_add-result c = omega (arith, c.sides_of-sides.ensures, item-sides c.args.state)

pub overflow_add-result-else-kind-eq3 : goal.overflow_add-result-else-kind-eq3
overflow_add-result-else-kind-eq3 c = omega (arith, c.sides_of-sides.ensures, item-sides c.args.state)

pub returns-then-kind-eq3 : goal.returns-then-kind-eq3
unfolding counted_one
returns-then-kind-eq3 c = simp (c.sides_of-sides.ensures, eq-eqb _ _ c.if-kind-eq3.true, add-zero)

pub returns-else-kind-eq3 : goal.returns-else-kind-eq3
unfolding counted_one
returns-else-kind-eq3 c = simp (c.sides_of-sides.ensures, ne_eqb _ _ c.if-kind-eq3.false, add-zero)
