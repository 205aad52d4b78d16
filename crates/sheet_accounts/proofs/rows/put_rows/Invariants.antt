-- The rows of the accounts with lower numbers were put; each turn goes on behind one that was found.
use Rattle.std.proofs.Common.{◌-◌}
use Rattle.book.specs.Keys.{account_limit}
use Rattle.book.specs.Meaning.{ledger_of}
use Rattle.listing.specs.ByNumber.{account_listed}
use Rattle.listing.proofs.ByNumber.{account_counted}
use Rattle.listing.proofs.Rows.{Walked}
use Rattle.sheet_accounts.specs.Rows.{account_row}
use Rattle.sheet_accounts.proofs.rows.put_rows.Given as goal

abbrev pub invariant-loop-page : goal.invariant-loop-page
invariant-loop-page g l =
    let h = (ledger_of l.book).holdings in Walked (account_row l.page h) 700 account_limit (account_listed h) (account_counted h) l.initial.out l.out l.from

abbrev pub decreases-loop-page : goal.decreases-loop-page
decreases-loop-page g l = account_limit - l.from
