-- `marks::differing` meets its contract. Assumes nothing.
use Rattle.marks.proofs.Masks.{differ_on}
use Rattle.marks.proofs.differing.Statement.{statement}
use Rattle.marks.proofs.differing.Tie as tie

pub differing_spec : {M : Type 1} → statement M
differing_spec = tie.close (tie.spec (λ c k h. differ_on c.args.one c.args.other k))
