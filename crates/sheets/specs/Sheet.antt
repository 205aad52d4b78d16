-- The handover sheet of a book, as text or as a page (RULES 18).
use Rattle.std.specs.Prelude.{ℕ, Bool, List, ◌++◌, ◌≡◌}
use Rattle.rulebook.specs.Ledger.{Ledger}
use Rattle.book.specs.Meaning.{ledger_of}
use Rattle.text_or_page.specs.Written.{in_page}
use Rattle.text_or_page.specs.Table.{table_of}
use Rattle.sheet_day.specs.DayLine.{heading, day_line, day_head}
use Rattle.sheet_waiting.specs.Rows.{waiting_rows, waiting_head}
use Rattle.sheet_accounts.specs.Rows.{account_rows, accounts_head}
use Rattle.sheet_cash.specs.Rows.{cash_rows, cash_head}
use Rattle.sheet_requests.specs.Rows.{request_rows, requests_head}
use Rattle.sheet_custody.specs.Rows.{custody_rows, custody_head}
use Rattle.sheets.specs.Page.{page_head, page_foot}

-- the day and what waits
unfoldable pub first_parts : (page : Bool) → Ledger → List ℕ
first_parts page b =
    in_page page page_head ++ heading page b.day.number ++ table_of page day_head (day_line page b.day b.rate)
    ++ table_of page waiting_head (waiting_rows page b.waiting)

-- what is held back, cash, requests, custody
unfoldable pub other_parts : (page : Bool) → Ledger → List ℕ
other_parts page b =
    table_of page accounts_head (account_rows page b.holdings) ++ table_of page cash_head (cash_rows page b.holdings)
    ++ table_of page requests_head (request_rows page b.requests) ++ table_of page custody_head (custody_rows page b.holdings.securities)
    ++ in_page page page_foot

unfoldable pub sheet_of : (page : Bool) → Ledger → List ℕ
sheet_of page b = first_parts page b ++ other_parts page b

-- how many bytes have room for every sheet
abbrev pub sheet_bytes : ℕ
sheet_bytes = 400_000

-- two books that mean the same have the same sheet, whatever the order of their words
unfoldable pub SameSheet : Type 0
SameSheet = (page : Bool) (one other : List ℕ) → ledger_of one ≡ ledger_of other → sheet_of page (ledger_of one) ≡ sheet_of page (ledger_of other)
