-- `slots::fill` meets its contract: the slots of the leg at k go behind those before them. Assumes nothing.
use Rattle.std.proofs.Common.{refl, arith}
use lib.ListN.{get_or-replicate}
use Rattle.legs.proofs.Filling.{figures_none, figures_more, figures_done}
use Rattle.slots.proofs.fill.Goals as goal

pub link-requires : goal.link-requires
link-requires c = (record { long = refl; none = λ k h. get_or-replicate 128 k 64 0 h }, c.requires.1, c.requires.2)

pub loop-k-init : goal.loop-k-init
loop-k-init c = figures_none _ _ c.args.slots.now c.requires.0

pub loop-k-preserved : goal.loop-k-preserved
loop-k-preserved c =
    let l = c.loop-k in
    rw c.put_slots.ensures
    (figures_more _ _ l.slots l.k (omega (arith, c.requires.2)) l.invariant _ _ c.slot_of-from.ensures c.slot_of-to.ensures)

pub returns : goal.returns
returns c = let l = c.loop-k in figures_done _ _ l.slots _ l.k (omega arith) l.invariant
