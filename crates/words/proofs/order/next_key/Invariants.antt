-- `words::order::next_key`: the least key of those that were looked at.
use Rattle.words.specs.Order.{LeastOf}
use Rattle.words.proofs.order.next_key.Given as goal

abbrev pub invariant-loop-key : goal.invariant-loop-key
invariant-loop-key l = LeastOf l.table l.key-index l.from l.limit l.least
