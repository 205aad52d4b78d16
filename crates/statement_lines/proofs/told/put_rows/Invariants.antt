-- The lines of the first rows were put.
use Rattle.std.proofs.Common.{◌≡◌, ◌≤◌, ◌+◌, ◌*◌, ◌++◌, length}
use Rattle.statement_lines.specs.Lines.{row_lines}
use Rattle.statement_lines.proofs.told.put_rows.Given as goal

abbrev pub invariant-loop-i : goal.invariant-loop-i
invariant-loop-i g l =
    (l.out ≡ l.initial.out ++ row_lines l.posts l.i l.area) × (length l.out ≤ length l.initial.out + 512 * l.i)
