-- Of every number a row, or nothing.
use Rattle.std.proofs.Common.{arith}
use mathlib.Core.Path.{◌≡◌}
use Rattle.book.specs.Meaning.{ledger_of}
use Rattle.listing.proofs.ByNumber.{cash_listed_lem}
use Rattle.listing.proofs.Rows.{counted_none, counted-more}
use Rattle.sheet_cash.specs.Rows.{cash_rows}
use Rattle.sheet_cash.proofs.rows.put_rows.Goals as goal

pub loop-number-init : goal.loop-number-init
loop-number-init g c = counted_none _ _ _ c.args.out.now

pub loop-number-preserved : goal.loop-number-preserved
loop-number-preserved g c = counted-more _ _ _ c.args.out.now c.loop-number.invariant c.put_row.ensures.put c.put_row.ensures.upper_bound

pub returns-clause-put : goal.returns-clause-put
unfolding cash_rows
returns-clause-put g c =
    let all : c.loop-number.number ≡ 128 = omega arith in
    rw (cash_listed_lem (ledger_of c.args.book.now).holdings, ← all) c.loop-number.invariant.put
