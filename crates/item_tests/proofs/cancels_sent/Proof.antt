-- `item_tests::cancels_sent` meets its contract: an item that waits under the sender's reference is the only one. Assumes nothing.
use mathlib.Core.Path.{◌≡◌, sym}
use borrow.Author.Tests.{ne_eqb}
use borrow.Author.Rules.{rules}
use Rattle.rulebook.specs.Refusals.{cancels_sent}
use Rattle.book.specs.Meaning.{ledger_of}
use Rattle.item_tests.proofs.Cancel.{sent-nothing, cancel-inside, sent-at}
use Rattle.item_tests.proofs.cancels_sent.Statement.{statement}
use Rattle.item_tests.proofs.cancels_sent.Tie as tie

-- the call, from where the search has answered
abbrev start : tie.After-first_sent-found → tie.Start
start c = c.before.before.before.before.before

returns : tie.Need-returns-then-order-ne15
unfolding cancels_sent
returns c = rw (ne_eqb _ _ c.if-order-ne15.true)

returns-2 : tie.Need-returns-in_default
returns-2 c =
    let found = c.before in
    let s = start found in
    sym
    (sent-nothing (ledger_of s.args.book.now) s.args.order _ _ found.if-order-ne15.false found.sender_of.ensures
    found.first_sent-found.ensures c.in_default.is)

item-at-requires : tie.Need-item_at-item-requires
item-at-requires c κs =
    let found = c.before in
    let s = start found in (
      s.requires.stored,
      cancel-inside (ledger_of s.args.book.now) s.args.order _ _ found.if-order-ne15.false found.sender_of.ensures
          found.first_sent-found.ensures _ c.in-Some.is,
    )

-- the item that was found tells it
told : (c : tie.After-item_at-item)
    → c.item_at-item.result.sent
    ≡ cancels_sent (ledger_of (start c.before.before).args.book.now).waiting (start c.before.before).args.order
told c =
    let found = c.before.before in
    let s = start found in
    let item = c.item_at-item in
    sym
    (sent-at (ledger_of s.args.book.now) s.args.order _ _ found.if-order-ne15.false found.sender_of.ensures
    found.first_sent-found.ensures _ c.in-Some.is s.requires.premise item.result (item.ensures item.result))

pub cancels_sent_spec : {M : Type 1} → statement M
cancels_sent_spec =
    tie.close
    (tie.spec returns (λ c κs. search rules) (λ c κs. search rules) (λ c. search rules) (λ c. search rules) returns-2 item-at-requires (λ c. search told))
