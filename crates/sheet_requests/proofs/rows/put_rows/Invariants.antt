-- The rows of the requests with lower numbers were put; each turn goes on behind one that was found.
use Rattle.std.proofs.Common.{◌-◌}
use Rattle.book.specs.Keys.{request_limit}
use Rattle.book.specs.Meaning.{ledger_of}
use Rattle.listing.specs.ByNumber.{request_listed}
use Rattle.listing.proofs.ByNumber.{request_counted}
use Rattle.listing.proofs.Rows.{Walked}
use Rattle.sheet_requests.specs.Rows.{request_row}
use Rattle.sheet_requests.proofs.rows.put_rows.Given as goal

abbrev pub invariant-loop-page : goal.invariant-loop-page
invariant-loop-page g l =
    let h = (ledger_of l.book).requests in Walked (request_row l.page h) 900 request_limit (request_listed h) (request_counted h) l.initial.out l.out l.from

abbrev pub decreases-loop-page : goal.decreases-loop-page
decreases-loop-page g l = request_limit - l.from
