-- `netting::due::is_due` meets its contract, by the item's state. Assumes nothing.
use borrow.Author.Rules.{rules}
use Rattle.rulebook.specs.Selection.{due}
use Rattle.rulebook.specs.Waiting.{is_trade}
use Rattle.netting.proofs.due.is_due.Statement.{statement}
use Rattle.netting.proofs.due.is_due.Tie as tie

pub is_due_spec : {M : Type 1} → statement M
unfolding due is_trade
is_due_spec =
    tie.close
    (tie.spec (λ c. search rules) (λ c. search rules) (λ c. search rules) (λ c. rw c.in-Single.is)
    (λ c. rw c.in-Pair.is) (λ c. rw c.in-Trade.is))
