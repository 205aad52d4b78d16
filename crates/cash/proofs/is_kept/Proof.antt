-- `cash::is_kept` meets its contract. Assumes nothing.
use borrow.Author.Rules.{rules}
use Rattle.cash.specs.Amounts.{kept}
use Rattle.cash.proofs.is_kept.Statement.{statement}
use Rattle.cash.proofs.is_kept.Tie as tie

returns : tie.Need-returns
unfolding kept
returns c = search rules

pub is_kept_spec : {M : Type 1} → statement M
is_kept_spec = tie.close (tie.spec returns)
