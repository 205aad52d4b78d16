-- `netting::select` meets its contract: no more are fixed than are due. Assumes nothing.
use Rattle.std.proofs.Common.{arith}
use Rattle.book.specs.Meaning.{ledger_of}
use Rattle.netting.proofs.Entries.{counted}
use Rattle.netting.proofs.select.Goals as goal

pub returns : goal.returns
returns c =
    let b = ledger_of c.args.book.now in
    let due = c.due_marks-due.ensures in
    let fixed = c.selected_marks-fixed.ensures in
    record {
      due_marked = due;
      fixed_marked = fixed;
      fewer = omega (arith, counted b c.due_marks-due.result c.selected_marks-fixed.result due fixed);
    }
