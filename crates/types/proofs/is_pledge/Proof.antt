-- `types::is_pledge` meets its contract. Assumes nothing.
use borrow.Author.Rules.{rules}
use Rattle.types.proofs.Rows.{pledged-at}
use Rattle.types.proofs.is_pledge.Statement.{statement}
use Rattle.types.proofs.is_pledge.Tie as tie

pub is_pledge_spec : {M : Type 1} → statement M
is_pledge_spec =
    tie.close
    (tie.spec (λ c κs. search rules) (λ c κs. search rules)
    (λ c. let asked = c.before.before.args in rw (c.names.ensures, c.before.row.ensures) (pledged-at asked.from asked.to)))
