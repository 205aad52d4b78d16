-- Of `cells::number_in`: the digits that follow are read on from the number so far.
use Rattle.std.proofs.Common.{◌≡◌, drop}
use Rattle.cells.specs.declared.kind.Kind.TheVariants.{NotANumber}
use Rattle.cells.specs.Cells.{strange, read_on, number_in}
use Rattle.cells.proofs.number_in.Given as goal

abbrev pub invariant-loop-b : goal.invariant-loop-b
invariant-loop-b l = number_in l.text ≡ read_on (strange NotANumber l.text) l.number (drop l.b-index l.text)
