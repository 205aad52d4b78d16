use Rattle.std.proofs.Common.{arith}
use Rattle.bits.specs.Bits.{Octets}
use Rattle.bits.proofs.Numbers.{put-none, put-more, put_all}
use Rattle.bits.proofs.put_bits.Goals as goal

pub loop-i-init : goal.loop-i-init
loop-i-init c =
    let h : Octets c.args.d.now = λ i. (c.type_inv.d i).fits in
    (put-none _ _ _ _ _ h c.requires.0 c.requires.1 c.from.ensures, h)

pub loop-i-preserved : goal.loop-i-preserved
loop-i-preserved c =
    let i = c.loop-i.invariant in
    (put-more _ _ _ _ _ i.1 c.requires.0 c.requires.1 c.from.ensures _ _ i.0 (omega arith) (omega arith), i.1)

pub returns : goal.returns
returns c = put_all _ _ _ _ _ _ c.loop-i.invariant.0 (omega arith)
