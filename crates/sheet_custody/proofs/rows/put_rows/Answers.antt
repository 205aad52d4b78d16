-- Of every place a row.
use Rattle.std.proofs.Common.{arith, length}
use mathlib.Core.Path.{◌≡◌}
use Rattle.book.specs.Meaning.{ledger_of}
use Rattle.listing.proofs.Rows.{counted_none, counted-more, all_placed, put-placed}
use Rattle.sheet_custody.specs.Line.{security_line}
use Rattle.sheet_custody.specs.Rows.{custody_rows}
use Rattle.sheet_custody.proofs.Nobody.{no_security}
use Rattle.sheet_custody.proofs.rows.put_rows.Goals as goal

pub loop-i-init : goal.loop-i-init
loop-i-init g c = counted_none _ _ _ c.args.out.now

pub loop-i-preserved : goal.loop-i-preserved
loop-i-preserved g c =
    let row =
    put-placed (ledger_of c.args.book.now).holdings.securities no_security (security_line c.args.page) c.loop-i.out c.loop-i.i (c.put_row.ensures.put no_security)
    in
    counted-more _ _ _ c.args.out.now c.loop-i.invariant row c.put_row.ensures.upper_bound

pub returns-clause-put : goal.returns-clause-put
unfolding custody_rows
returns-clause-put g c =
    let items = (ledger_of c.args.book.now).holdings.securities in
    let all : c.loop-i.i ≡ length items = omega arith in
    rw (all, all_placed items no_security) at c.loop-i.invariant.put
