-- `item_tests::wrong_cancel` meets its contract: an item that waits under the sender's reference is the only one. Assumes nothing.
use mathlib.Core.Path.{sym, ◌∙◌}
use borrow.Author.Tests.{ne_eqb}
use borrow.Author.Rules.{rules}
use Rattle.rulebook.specs.Refusals.{wrong_cancel}
use Rattle.book.specs.Meaning.{ledger_of}
use Rattle.item_tests.proofs.Cancel.{cancel-nothing, cancel-inside, cancel-at}
use Rattle.item_tests.proofs.wrong_cancel.Statement.{statement}
use Rattle.item_tests.proofs.wrong_cancel.Tie as tie

returns : tie.Need-returns-then-order-ne15
unfolding wrong_cancel
returns c = rw (ne_eqb _ _ c.if-order-ne15.true)

returns-2 : tie.Need-returns-in_default
returns-2 c =
    let found = c in
    let s = found in
    sym
    (cancel-nothing (ledger_of s.args.book.now) s.args.order _ _ found.if-order-ne15.false found.sender_of-sender.ensures
    found.first_sent-found.ensures c.in_default.is)

item-at-requires : tie.Need-item_at-item-requires
item-at-requires c κs =
    let found = c in
    let s = found in (
      s.requires.stored,
      cancel-inside (ledger_of s.args.book.now) s.args.order _ _ found.if-order-ne15.false found.sender_of-sender.ensures
          found.first_sent-found.ensures _ c.in-Some.is,
    )

returns-3 : tie.Need-returns
returns-3 c =
    let found = c in
    let s = found in
    let item = c.item_at-item in
    c.not_cancellable.ensures
    ∙ sym
    (cancel-at (ledger_of s.args.book.now) s.args.order _ _ found.if-order-ne15.false found.sender_of-sender.ensures
    found.first_sent-found.ensures _ c.in-Some.is s.requires.premise item.result (item.ensures item.result))

pub wrong_cancel_spec : {M : Type 1} → statement M
wrong_cancel_spec =
    tie.close
    (tie.spec returns (λ c κs. search rules) (λ c κs. search rules) (λ c. search rules) (λ c. search rules) returns-2 item-at-requires (λ c κs. search rules)
    returns-3)
