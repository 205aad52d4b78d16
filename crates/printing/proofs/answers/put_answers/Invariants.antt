-- The records that were met were called, and those of the rest are left. The lengths of what is lent stay.
use Rattle.std.proofs.Common.{◌≡◌, length}
use Rattle.std.specs.Slice.Iter.{chunks_rest, chunks_size}
use Rattle.printing.specs.Printed.{lent}
use Rattle.printing.proofs.AnswerLines.{Walked}
use Rattle.printing.proofs.answers.put_answers.Given as goal

abbrev pub invariant-loop-octets : goal.invariant-loop-octets
invariant-loop-octets g l = record {
  can_next : (goal.iterator-loop-octets g).can_next l.octets-iterator;
  is_finite : (goal.iterator-loop-octets g).is_finite l.octets-iterator;
  size : chunks_size l.octets-iterator ≡ 40;
  walked : Walked l.fn.file l.fn.number (lent l.fn.book l.fn.area l.fn.out) (lent l.book l.area l.out) (chunks_rest l.octets-iterator) l.n;
  book : length l.book ≡ length l.fn.book;
  area : length l.area ≡ length l.fn.area;
}
