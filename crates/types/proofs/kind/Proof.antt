-- `types::kind` meets its contract. Assumes nothing.
use lib.Bits.{and_mask}
use Rattle.types.proofs.kind.Statement.{statement}
use Rattle.types.proofs.kind.Tie as tie

pub kind_spec : {M : Type 1} → statement M
kind_spec = tie.close (tie.spec (λ c. and_mask c.args.row 4))
