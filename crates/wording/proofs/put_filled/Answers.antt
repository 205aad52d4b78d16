-- `wording::put_filled` meets its contract: what the bytes before a place say has been put. Assumes nothing.
use Rattle.std.proofs.Common.{rules, arith}
use lib.ListN.{length-drop}
use Rattle.wording.proofs.Filling.{none_filled, other_filled, bare_filled, sign_filled, all-filled}
use Rattle.wording.proofs.put_filled.Goals as goal
use Rattle.wording.proofs.put_filled.Goals.{in-Some+in-Some-next, in-Some+in_default, in-None}

pub loop-b-init : goal.loop-b-init
loop-b-init g c = rw c.iter-rest.ensures.rest (none_filled c.args.out.now c.args.pattern.now c.args.numbers.now)

pub loop-b-preserved : goal.loop-b-preserved
loop-b-preserved g c =
    let filled = c.loop-b.invariant in
    let inside = c.loop-b-test.true in
    elim c.match-sign_of.branch [
      | in-Some+in-Some-next w ↦
          rw (w.out-is, w.rest-is) (sign_filled filled inside w.in-Some.ensures.0 w.in-Some-next.n.now _ _ w.in-Some-next.ensures.steps
          (rw (← w.in-Some.ensures.1 w.in-Some-next.n.now) w.put_said.ensures.put) w.put_said.ensures.upper_bound)
      | in-Some+in_default w ↦
          let none = w.in_default.ensures.steps in
          rw (w.out-is, w.rest-is, none.1) (bare_filled filled inside w.in-Some.ensures.0 none.0)
      | in-None w ↦ rw (w.out-is, w.rest-is) (other_filled filled inside w.in-None.ensures _ w.put.ensures)
    ]

pub returns-clause-put : goal.returns-clause-put
returns-clause-put g c = all-filled c.loop-b.invariant (omega arith)
