-- `instructions::set_rate` meets its contract. Assumes nothing.
use borrow.Author.Rules.{rules}
use Rattle.rulebook.specs.Forms.{set_rate}
use Rattle.book.proofs.Handled.{silent-handled}
use Rattle.instructions.proofs.set_rate.Statement.{statement}
use Rattle.instructions.proofs.set_rate.Tie as tie

returns : tie.Need-returns
unfolding set_rate
returns c = silent-handled _ _ _ c.before.before.before.put_rate.ensures c.no_counts.ensures

pub set_rate_spec : {M : Type 1} → statement M
set_rate_spec = tie.close (tie.spec (λ c κs. search rules) (λ c κs. search rules) (λ c. search rules) returns)
