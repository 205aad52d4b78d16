-- `marks::flip` meets its contract. Assumes nothing.
use borrow.Author.Rules.{rules}
use Rattle.marks.proofs.Masks.{flip_on}
use Rattle.marks.proofs.flip.Statement.{statement}
use Rattle.marks.proofs.flip.Tie as tie

pub flip_spec : {M : Type 1} → statement M
flip_spec = tie.close (tie.spec (λ c. search rules) (λ c. search rules) (λ c k h. flip_on c.args.marks c.args.i k c.requires h))
