-- `types::ends` meets its contract. Assumes nothing.
use borrow.Author.Rules.{rules}
use Rattle.rulebook.specs.AccountTypes.{ends}
use Rattle.types.proofs.Rows.{paper_at_lem}
use Rattle.types.proofs.ends.Statement.{statement}
use Rattle.types.proofs.ends.Tie as tie

returns : tie.Need-returns
unfolding ends
returns c =
    let asked = c.before.before.before.args in
    rw (c.before.before.is_outside.ensures, c.names.ensures, c.before.row.ensures, paper_at_lem asked.came asked.credited)

pub ends_spec : {M : Type 1} → statement M
ends_spec = tie.close (tie.spec (λ c κs. search rules) (λ c κs. search rules) (λ c κs. search rules) returns)
