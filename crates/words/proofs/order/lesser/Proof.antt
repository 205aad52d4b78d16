-- `words::order::lesser` meets its contract. Assumes nothing.
use borrow.Author.Tests.{lt-ltb, le-ltb}
use Rattle.words.proofs.order.lesser.Statement.{statement}
use Rattle.words.proofs.order.lesser.Tie as tie

pub lesser_spec : {M : Type 1} → statement M
lesser_spec =
    tie.close
    (tie.spec
    (λ c. rw (lt-ltb _ _ c.if-key-from.true))
    (λ c. rw (le-ltb _ _ c.before.if-key-from.false, lt-ltb _ _ c.if-least-key.true))
    (λ c. rw (le-ltb _ _ c.before.if-key-from.false, le-ltb _ _ c.if-least-key.false)))
