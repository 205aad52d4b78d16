-- One row's line more.
use Rattle.std.proofs.Common.{arith, ◌≡◌, ◌+◌, ◌-◌, ◌*◌}
use Rattle.text.proofs.Putting.{put_then}
use Rattle.statement_lines.specs.Lines.{row_lines}
use Rattle.statement_lines.proofs.Rows.{one_row_more}
use Rattle.statement_lines.proofs.told.put_rows.Goals as goal

pub loop-i-preserved : goal.loop-i-preserved
loop-i-preserved g c =
    let width : 16 * c.loop-i.i + 16 - 16 * c.loop-i.i ≡ 16 = omega arith in (
      rw (one_row_more c.args.posts c.loop-i.i c.args.area.now) (put_then _ _ _ c.loop-i.invariant.0 (rw width at c.put_row.ensures.put)),
      omega (arith, c.loop-i.invariant.1, c.put_row.ensures.upper_bound),
    )
