-- The line of a request that is open.
use Rattle.book.specs.Keys.{member_of, reference_of}
use Rattle.book.specs.Meaning.{ledger_of}
use Rattle.listing.proofs.Rows.{put-listed}
use Rattle.sheet_requests.specs.Rows.{request_row}
use Rattle.sheet_requests.proofs.rows.put_row.Goals as goal

pub returns-clause-put : goal.returns-clause-put
returns-clause-put g c =
    put-listed
    (request_row c.args.page (ledger_of c.args.book.now).requests)
    (member_of c.args.number, reference_of c.args.number)
    c.args.out.now _ c.requires.1 (rw c.request-request.ensures) c.put_line.ensures.put
