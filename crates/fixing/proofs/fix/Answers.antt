-- `fixing::fix` meets its contract: the item at i gets its mark on the book where those before it have theirs. Assumes nothing.
use Rattle.std.proofs.Common.{arith}
use Rattle.book.specs.Meaning.{ledger_of}
use Rattle.marks.specs.Marks.{no_item}
use Rattle.fixing.proofs.Marking.{fixing-none, fixing-next, fixing-done}
use Rattle.fixing.proofs.fix.Goals as goal

pub loop-i-init : goal.loop-i-init
loop-i-init c = fixing-none c.args.marks c.args.book.now c.requires.0

-- i is a place of the waiting list
pub put_sent-requires : goal.put_sent-requires
put_sent-requires c =
    let v = c.loop-i.invariant in
    (v.means.stored, omega (arith, c.items-n.ensures, v.so_far.long))

pub loop-i-preserved : goal.loop-i-preserved
loop-i-preserved c =
    let l = c.loop-i in
    fixing-next (ledger_of c.args.book.now) c.args.marks l.book l.i l.invariant (omega (arith, c.items-n.ensures)) _ c.is_on.ensures _
    (c.put_sent.ensures no_item)

pub returns : goal.returns
returns c =
    let l = c.loop-i in
    fixing-done (ledger_of c.args.book.now) c.args.marks l.book l.i l.invariant (omega (arith, c.items-n.ensures))
