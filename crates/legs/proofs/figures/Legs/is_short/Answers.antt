-- `legs::figures::Legs::is_short` meets its contract: the figures are read through the slot. Assumes nothing.
use Rattle.std.proofs.Common.{arith}
use Rattle.legs.proofs.Slotted.{has-viewed, owes_viewed}
use Rattle.legs.proofs.figures.Legs.is_short.Goals as goal

pub returns : goal.returns
returns c =
    let l = c.args.self.now in
    rw (has-viewed l.slots l.figures c.args.i (omega (arith, l.few)), owes_viewed l.slots l.figures c.args.i (omega (arith, l.few)))
