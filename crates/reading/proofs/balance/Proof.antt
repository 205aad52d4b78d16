-- `reading::balance` meets its contract: what no record can name has no balance. Assumes nothing.
use mathlib.Core.Path.{sym, ◌∙◌}
use borrow.Author.Rules.{rules}
use Rattle.accounts.specs.Map.{balance_of}
use Rattle.accounts.proofs.Keys.{range_holds}
use Rattle.book.specs.Meaning.{holdings_of}
use Rattle.reading.proofs.balance.Statement.{statement}
use Rattle.reading.proofs.balance.Tie as tie

pub balance_spec : {M : Type 1} → statement M
balance_spec =
    tie.close
    (tie.spec
    (λ c κs. search rules)
    (λ c κs. (c.before.before.before.requires.stored, range_holds _ (sym c.before.is_named.ensures ∙ c.if-is_named.true)))
    (λ c. search rules)
    (λ c. unfold holdings_of balance_of in rw (sym c.before.is_named.ensures ∙ c.if-is_named.false)))
