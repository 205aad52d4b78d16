-- The lines of the records that were met were put, and those of the rest are left.
use Rattle.std.proofs.Common.{◌≡◌}
use Rattle.std.specs.Slice.Iter.{chunks_rest, chunks_size}
use Rattle.table_lines.proofs.Lines.{Walked}
use Rattle.table_lines.proofs.put_records.Given as goal

abbrev pub invariant-loop-octets : goal.invariant-loop-octets
invariant-loop-octets g l = record {
  can_next : (goal.iterator-loop-octets g).can_next l.octets-iterator;
  is_finite : (goal.iterator-loop-octets g).is_finite l.octets-iterator;
  size : chunks_size l.octets-iterator ≡ 40;
  walked : Walked l.fn.file l.fn.out l.out (chunks_rest l.octets-iterator);
}
