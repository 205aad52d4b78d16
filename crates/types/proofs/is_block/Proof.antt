-- `types::is_block` meets its contract. Assumes nothing.
use borrow.Author.Rules.{rules}
use Rattle.types.proofs.Rows.{blocked-at}
use Rattle.types.proofs.is_block.Statement.{statement}
use Rattle.types.proofs.is_block.Tie as tie

pub is_block_spec : {M : Type 1} → statement M
is_block_spec =
    tie.close
    (tie.spec (λ c κs. search rules) (λ c κs. search rules)
    (λ c. let asked = c.before.before.args in rw (c.names.ensures, c.before.row.ensures) (blocked-at asked.from asked.to)))
