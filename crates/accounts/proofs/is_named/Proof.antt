-- `accounts::is_named` meets its contract. Assumes nothing.
use borrow.Author.Rules.{rules}
use Rattle.accounts.specs.Keys.{in_range}
use Rattle.accounts.proofs.is_named.Statement.{statement}
use Rattle.accounts.proofs.is_named.Tie as tie

returns : tie.Need-returns
unfolding in_range
returns c = search rules

pub is_named_spec : {M : Type 1} → statement M
is_named_spec = tie.close (tie.spec returns)
