-- `room_tests::offers::fixed_flows` meets its contract: the sums with the item at i and what is left are the whole. Assumes nothing.
use Rattle.std.proofs.Common.{arith}
use Rattle.book.specs.Meaning.{ledger_of}
use Rattle.room_tests.proofs.Offered.{summed_none, summed_more, summed_done, taken_small, brought_small}
use Rattle.room_tests.proofs.offers.fixed_flows.Goals as goal

pub loop-i-init : goal.loop-i-init
loop-i-init c = (summed_none _ _, summed_none _ _)

pub overflow_add-taken : goal.overflow_add-taken
overflow_add-taken c =
    let more = summed_more _ _ _ _ _ (omega (arith, c.items-n.ensures)) (λ d. (c.fixed_flow-flow.ensures d).0) c.loop-i.invariant.0 in
    omega (arith, more, taken_small (ledger_of c.args.book.now) c.requires.premise c.args.account)

pub overflow_add-brought : goal.overflow_add-brought
overflow_add-brought c =
    let more = summed_more _ _ _ _ _ (omega (arith, c.items-n.ensures)) (λ d. (c.fixed_flow-flow.ensures d).1) c.loop-i.invariant.1 in
    omega (arith, more, brought_small (ledger_of c.args.book.now) c.requires.premise c.args.account)

pub loop-i-preserved : goal.loop-i-preserved
loop-i-preserved c = (
  summed_more _ _ _ _ _ (omega (arith, c.items-n.ensures)) (λ d. (c.fixed_flow-flow.ensures d).0) c.loop-i.invariant.0,
  summed_more _ _ _ _ _ (omega (arith, c.items-n.ensures)) (λ d. (c.fixed_flow-flow.ensures d).1) c.loop-i.invariant.1,
)

pub returns : goal.returns
returns c =
    let l = c.loop-i in
    record {
      taken_value = summed_done _ _ _ _ (omega (arith, c.items-n.ensures)) l.invariant.0;
      brought_value = summed_done _ _ _ _ (omega (arith, c.items-n.ensures)) l.invariant.1;
    }
