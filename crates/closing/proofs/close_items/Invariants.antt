-- The first i items are dealt with, and j of them stay.
use Rattle.closing.proofs.Closed.{Closing}
use Rattle.closing.proofs.close_items.Given as goal

abbrev pub invariant-loop-i : goal.invariant-loop-i
invariant-loop-i l = Closing l.number l.initial.book l.initial.area l.book l.area l.counted l.j l.i
