-- The accounts whose shares are pledged, blocked or in transit (RULES 18.5): the rows, in order, and the head of their table.
use Rattle.std.specs.Prelude.{ℕ, Bool, List, ◌++◌}
use Rattle.rulebook.specs.Ledger.{Holdings}
use Rattle.rulebook.specs.declared.Account.{Account}
use Rattle.listing.specs.InOrder.{each_of}
use Rattle.listing.specs.Listed.{accounts_listed}
use Rattle.sheet_accounts.specs.Line.{account_line}
use Rattle.text.specs.Text.{text}

-- an account with its balance
abbrev pub account_row : (page : Bool) → Holdings → Account → List ℕ
account_row page h account = account_line page account (h.balance account)

-- in the order of `Rattle.listing.specs.Listed`
unfoldable pub account_rows : (page : Bool) → Holdings → List ℕ
account_rows page h = each_of (account_row page h) (accounts_listed h)

-- what stands above them in a page
abbrev pub accounts_head : List ℕ
accounts_head =
    text "<h2>Pledged, blocked or in transit</h2>\n<table>\n<thead><tr><th class=n>Security</th><th class=n>Member</th><th class=n>Type</th>"
    ++ text "<th>Name</th><th class=n>Shareholder</th><th class=n>Balance</th></tr></thead>\n<tbody>\n"
