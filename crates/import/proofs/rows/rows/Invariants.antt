-- What was read so far is walked on from what is in the buffer.
use Rattle.std.proofs.Common.{◌≡◌, ◌≤◌, length}
use Rattle.table_buffer.specs.Buffers.{BLOCK}
use Rattle.import.proofs.Laws.{So}
use Rattle.import.proofs.rows.rows.Given as goal

abbrev pub invariant-loop-turn : goal.invariant-loop-turn
invariant-loop-turn g l = record {
  so : So l.fn.places l.fn.input l.fn.first l.input l.reading;
  starts : l.reading.from ≤ l.reading.size;
  ends : l.reading.size ≤ BLOCK;
  input_long : length l.input ≡ length l.fn.input;
  out_long : length l.out ≡ length l.fn.out;
}
