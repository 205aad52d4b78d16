-- `types::type_at` meets its contract. Assumes nothing.
use Prim.Native.Nat.{◌/◌, ◌^◌}
use borrow.Author.Rules.{rules}
use lib.Bits.{and_mask}
use Rattle.types.proofs.type_at.Statement.{statement}
use Rattle.types.proofs.type_at.Tie as tie

pub type_at_spec : {M : Type 1} → statement M
type_at_spec = tie.close (tie.spec (λ c. search rules) (λ c. and_mask (c.args.row / 2 ^ c.args.place) 8))
