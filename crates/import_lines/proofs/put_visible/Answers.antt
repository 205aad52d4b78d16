-- One byte more.
use Rattle.std.proofs.Common.{arith, ◌∷◌, []}
use mathlib.Core.List.{append-nil}
use mathlib.Core.Path.{sym, ap}
use lib.ListN.{length, length-append}
use lib.Seq.{take_all}
use Rattle.text.proofs.Putting.{put_then}
use Rattle.import_lines.proofs.Showing.{shown-more}
use Rattle.import_lines.proofs.put_visible.Goals as goal

pub loop-b-init : goal.loop-b-init
loop-b-init g c = (sym (append-nil c.args.out.now), omega arith)

pub loop-b-preserved : goal.loop-b-preserved
loop-b-preserved g c =
    let one = rw c.visible.ensures at c.put.ensures in
    let long = length-append c.loop-b.out (c.visible.result ∷ []) in (
      rw (shown-more c.args.bytes.now c.loop-b.b-index c.loop-b-test.true) (put_then _ _ _ c.loop-b.invariant.0 one),
      omega (arith, c.loop-b.invariant.1, ap length c.put.ensures, long),
    )

pub returns-clause-put : goal.returns-clause-put
returns-clause-put g c = rw (take_all c.loop-b.b-index c.args.bytes.now (omega arith)) at c.loop-b.invariant.0
