-- A walk by numbers: up to the next one that is found nothing is listed.
use Rattle.std.proofs.Common.{rules, arith, ◌<◌}
use Rattle.book.specs.Keys.{request_limit}
use Rattle.book.specs.Meaning.{ledger_of}
use Rattle.listing.proofs.Rows.{walked_none, walked_room, walked_more, walked_all}
use Rattle.listing.proofs.Walks.{requests_walk}
use Rattle.sheet_requests.specs.Rows.{request_rows}
use Rattle.sheet_requests.proofs.rows.put_rows.Goals as goal

pub loop-page-init : goal.loop-page-init
loop-page-init g c = walked_none c.args.out.now

pub returns-then-number-eq-LIMIT-clause-put : goal.returns-then-number-eq-LIMIT-clause-put
unfolding request_rows
returns-then-number-eq-LIMIT-clause-put g c =
    let walk = requests_walk (ledger_of c.args.book.now) c.requires.0.premise in
    (walked_all c.args.out.now walk c.loop-page.invariant c.next_request-number.ensures c.if-number-eq-LIMIT.true).0

pub returns-then-number-eq-LIMIT-clause-upper_bound : goal.returns-then-number-eq-LIMIT-clause-upper_bound
returns-then-number-eq-LIMIT-clause-upper_bound g c =
    let walk = requests_walk (ledger_of c.args.book.now) c.requires.0.premise in
    (walked_all c.args.out.now walk c.loop-page.invariant c.next_request-number.ensures c.if-number-eq-LIMIT.true).1

pub put_row-requires : goal.put_row-requires
put_row-requires g c =
    let walk = requests_walk (ledger_of c.args.book.now) c.requires.0.premise in
    let found = c.next_request-number.ensures in
    let inside : c.next_request-number.result < request_limit = omega (arith, found.most, c.if-number-eq-LIMIT.false) in
    let room = walked_room c.args.out.now walk c.loop-page.invariant found inside in
    (search rules, (c.requires.0, found.passes inside, omega (arith, room, c.requires.1)))

pub loop-page-preserved : goal.loop-page-preserved
loop-page-preserved g c =
    let walk = requests_walk (ledger_of c.args.book.now) c.requires.0.premise in
    let found = c.next_request-number.ensures in
    let inside : c.next_request-number.result < request_limit = omega (arith, found.most, c.if-number-eq-LIMIT.false) in
    walked_more c.args.out.now walk c.loop-page.invariant found inside c.put_row.ensures.put c.put_row.ensures.upper_bound
