-- `exports::depository_fresh` meets its contract. Assumes nothing.
use borrow.Author.Rules.{rules}
use Rattle.exports.proofs.Answers.{fresh-made, fresh-wrong}
use Rattle.exports.proofs.depository_fresh.Statement.{statement}
use Rattle.exports.proofs.depository_fresh.Tie as tie

returns : tie.Need-returns-then-fresh
returns c = fresh-made _ _ _ c.before.before.before.fresh.ensures c.if-fresh.true

returns-2 : tie.Need-returns
returns-2 c = fresh-wrong _ _ _ c.before.before.before.fresh.ensures c.if-fresh.false

pub depository_fresh_spec : {M : Type 1} → statement M
depository_fresh_spec = tie.close (tie.spec (λ c κs. search rules) (λ c. search rules) returns (λ c. search rules) returns-2)
