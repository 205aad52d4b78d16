-- What the bytes before a place say has been put.
use Rattle.wording.proofs.Filling.{Filled}
use Rattle.wording.proofs.put_filled.Given as goal

abbrev pub invariant-loop-b : goal.invariant-loop-b
invariant-loop-b g l = Filled l.initial.out l.pattern l.numbers l.out l.rest.rest.now l.b-index
