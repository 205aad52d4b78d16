-- No test of this stage applies to an order of another form.
use borrow.Author.Tests.{not-true}
use Rattle.plain.specs.Lists.{◌is◌, ◌is_not◌}
use Rattle.plain.proofs.Tests.{both}
use Rattle.rulebook.specs.Refusals.{request_tests, wrong_request, ends_too_soon, too_many_requests}
use Rattle.checking.proofs.Orders.{reference-named}
use Rattle.request_tests.proofs.check.Goals as goal

pub returns-then-order : goal.returns-then-order
unfolding request_tests wrong_request ends_too_soon too_many_requests
returns-then-order c =
    let form = c.args.order.form in
    let other = both (form is_not 19) (form is_not 20) c.if-order.true in
    rw (not-true (form is 19) other.0, not-true (form is 20) other.1)

pub request-request-requires : goal.request-request-requires
request-request-requires c = (c.requires.0, reference-named _ c.requires.1)
