-- Of `order_line::line_fields`: the cells passed have put their numbers into their fields.
use Rattle.std.proofs.Common.{◌≡◌, ◌+◌, ◌≤◌, length, drop}
use Rattle.cells.specs.Cells.{cells}
use Rattle.table.specs.Lines.{fields_from, line_fields}
use Rattle.order_line.proofs.line_fields.Given as goal

abbrev pub invariant-loop-cell : goal.invariant-loop-cell
invariant-loop-cell l = record {
  few : l.column ≤ length l.places;
  long : length l.values ≡ 19;
  passed : l.column ≡ length l.yielded;
  read : fields_from (drop l.column l.places) (l.column + 1) l.values (drop l.column (cells l.line)) ≡ line_fields l.places l.line;
}
