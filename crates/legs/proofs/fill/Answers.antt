-- `legs::fill` meets its contract: the leg that is asked of place i goes behind those before it. Assumes nothing.
use Rattle.std.proofs.Common.{arith}
use Rattle.legs.proofs.Filling.{filled_none, filled_more}
use Rattle.legs.proofs.fill.Goals as goal

pub loop-i-init : goal.loop-i-init
loop-i-init g c = filled_none _ c.args.legs.now c.args.figures.now c.requires.size.0 c.requires.size.1

pub loop-i-preserved : goal.loop-i-preserved
loop-i-preserved g c =
    let l = c.loop-i in
    filled_more _ l.legs l.figures l.i (omega (arith, c.requires.size.2)) l.invariant _ c.leg_of-leg.ensures _ _ c.put_leg.ensures c.start.ensures
