-- Of `first_line::columns`: the columns passed have their fields, and the cells that follow are read on from these.
use Rattle.std.proofs.Common.{◌≡◌, ◌≤◌, [], length, take, drop}
use Rattle.cells.specs.Cells.{cells}
use Rattle.table.specs.Header.{header_from, Known}
use Rattle.first_line.proofs.columns.Given as goal

abbrev pub invariant-loop-cell : goal.invariant-loop-cell
invariant-loop-cell l = record {
  few : l.count ≤ 18;
  long : length l.places ≡ 19;
  passed : l.count ≡ length l.yielded;
  known : Known (take l.count l.places);
  read : header_from (take l.count l.places) (drop l.count (cells l.line)) ≡ header_from [] (cells l.line);
}
