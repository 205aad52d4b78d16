-- `cash::total`: the sum is that of the members so far.
use Rattle.std.proofs.Common.{◌≡◌, ◌+◌}
use Rattle.plain.specs.Lists.{sum_below}
use Rattle.cash.specs.Amounts.{amount_of}
use Rattle.cash.proofs.total.Given as goal

abbrev pub invariant-loop-member : goal.invariant-loop-member
invariant-loop-member l = l.sum ≡ sum_below l.member (λ n. amount_of l.cash (n + 1) l.currency)
