-- `types::state` meets its contract. Assumes nothing.
use lib.Bits.{and_mask}
use Rattle.types.proofs.state.Statement.{statement}
use Rattle.types.proofs.state.Tie as tie

pub state_spec : {M : Type 1} → statement M
state_spec = tie.close (tie.spec (λ c. and_mask c.args.row 3))
