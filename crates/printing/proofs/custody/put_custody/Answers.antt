-- One security's line more.
use Rattle.std.proofs.Common.{rules, arith, ◌≤◌, length}
use mathlib.Core.List.{append-nil}
use mathlib.Core.Path.{sym}
use lib.Seq.{take_all}
use Rattle.rulebook.specs.declared.Security.{Security}
use Rattle.book.specs.Meaning.{ledger_of}
use Rattle.text.proofs.Putting.{put_then}
use Rattle.printing.specs.Printed.{custody_from, custody_lines}
use Rattle.printing.proofs.CustodyLines.{one_line_more}
use Rattle.printing.proofs.custody.put_custody.Goals as goal

none : Security
none = record { code = 0; issued = record { 0 = 0 }; outside = record { 0 = 0 }; held = record { 0 = 0 } }

pub loop-i-init : goal.loop-i-init
unfolding custody_from
loop-i-init g c = (sym (append-nil c.args.out.now), omega arith)

pub loop-i-preserved : goal.loop-i-preserved
loop-i-preserved g c =
    let securities = (ledger_of c.args.book.now).holdings.securities in (
      rw (one_line_more securities c.loop-i.i none (omega arith)) (put_then _ _ _ c.loop-i.invariant.0 (c.put_security.ensures.put none)),
      omega (arith, c.loop-i.invariant.1, c.put_security.ensures.upper_bound),
    )

pub returns : goal.returns
unfolding custody_lines
returns g c =
    let all : length (ledger_of c.args.book.now).holdings.securities ≤ c.loop-i.i = omega arith in
    rw (take_all _ _ all) at c.loop-i.invariant.0
