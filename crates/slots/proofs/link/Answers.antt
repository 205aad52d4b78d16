-- `slots::link` meets its contract: the leg at i goes before those of its bucket. Assumes nothing.
use Rattle.std.proofs.Common.{arith}
use Rattle.slots.proofs.Links.{linked_none, linked_more, linked_done}
use Rattle.slots.proofs.link.Goals as goal

pub loop-i-init : goal.loop-i-init
loop-i-init c = linked_none c.args.legs.now c.args.links.now c.requires.0

pub loop-i-preserved : goal.loop-i-preserved
loop-i-preserved c =
    let l = c.loop-i in
    let e = c.bucket_of-bucket.ensures in
    rw c.put_link.ensures (linked_more c.args.legs.now l.links l.i (omega (arith, c.requires.2)) l.invariant _ e.0 e.1)

pub returns : goal.returns
returns c = let l = c.loop-i in linked_done c.args.legs.now l.links _ l.i (omega arith) l.invariant
