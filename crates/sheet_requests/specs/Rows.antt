-- The open requests for paper (RULES 18.7): the rows, in order, and the head of their table.
use Rattle.std.specs.Prelude.{ℕ, Bool, List, ◌++◌}
use Rattle.rulebook.specs.Ledger.{Requests}
use Rattle.listing.specs.InOrder.{each_of}
use Rattle.listing.specs.Listed.{requests_listed}
use Rattle.sheet_requests.specs.Line.{request_line}
use Rattle.text.specs.Text.{text}

-- a member's request under a reference
abbrev pub request_row : (page : Bool) → Requests → (member_and_reference : ℕ × ℕ) → List ℕ
request_row page r who = request_line page who.0 who.1 (r.asked who.0 who.1)

-- in the order of `Rattle.listing.specs.Listed`
unfoldable pub request_rows : (page : Bool) → Requests → List ℕ
request_rows page r = each_of (request_row page r) (requests_listed r)

-- what stands above them in a page
abbrev pub requests_head : List ℕ
requests_head =
    text "<h2>Open requests for paper</h2>\n<table>\n<thead><tr><th class=n>Member</th><th class=n>Reference</th><th class=n>Security</th>"
    ++ text "<th class=n>From type</th><th>Name</th><th class=n>Shareholder</th><th class=n>Quantity</th><th class=n>Day</th>"
    ++ text "</tr></thead>\n<tbody>\n"
