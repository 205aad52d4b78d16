-- `marks::first` meets its contract. Assumes nothing.
use native.Mathlib.Omega.{arith}
use lib.Count.{leading_le}
use Rattle.marks.proofs.Masks.{first_on}
use Rattle.marks.proofs.first.Statement.{statement}
use Rattle.marks.proofs.first.Tie as tie

returns : tie.Need-returns
returns c = first_on c.args.marks c.requires c.ranges.marks.fits

pub first_spec : {M : Type 1} → statement M
first_spec = tie.close (tie.spec (λ c. omega (arith, leading_le 64 c.args.marks)) returns)
