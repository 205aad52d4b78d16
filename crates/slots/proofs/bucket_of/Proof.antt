-- `slots::bucket_of` meets its contract. Assumes nothing.
use mathlib.Core.Path.{refl}
use native.Mathlib.Omega.{arith}
use Rattle.slots.specs.Links.{bucket_of}
use Rattle.slots.proofs.bucket_of.Statement.{statement}
use Rattle.slots.proofs.bucket_of.Tie as tie

returns : tie.Need-returns
unfolding bucket_of
returns c = (refl, omega arith)

pub bucket_of_spec : {M : Type 1} → statement M
bucket_of_spec = tie.close (tie.spec returns)
