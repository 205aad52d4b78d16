-- Refusals 11 and 12 are of the order's stage, 19 is of the requests', 16 stands before.
use Rattle.std.proofs.Common.{sym, ◌∙◌}
use Rattle.rulebook.specs.Refusals.{order_tests, request_tests}
use Rattle.book.specs.Meaning.{ledger_of}
use Rattle.rulebook.proofs.Checking.{none_applies, order-numbered, requests_numbered}
use Rattle.room_tests.proofs.check.Goals as goal

pub no_space-requires : goal.no_space-requires
unfolding order_tests request_tests
no_space-requires c =
    let book = ledger_of c.args.book.now in
    let order = c.args.order in
    let passed = none_applies (order_tests book.holdings book.day.number order) (order-numbered book.holdings book.day.number order) c.requires.2 in
    let asked = none_applies (request_tests book.requests book.day.number order) (requests_numbered book.requests book.day.number order) c.requires.3 in (
      c.requires.0,
      c.requires.1,
      record { types = passed 11; parties = passed 12; request = asked 19; enough = sym c.too_little.ensures ∙ c.in_ok-refuse.ensures },
    )
