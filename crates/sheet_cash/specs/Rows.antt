-- The members' cash (RULES 18.6): the rows, in order, and the head of their table.
use Rattle.std.specs.Prelude.{ℕ, Bool, List}
use Rattle.rulebook.specs.Ledger.{Holdings}
use Rattle.listing.specs.InOrder.{each_of}
use Rattle.listing.specs.Listed.{cash_listed}
use Rattle.sheet_cash.specs.Line.{cash_line}
use Rattle.text.specs.Text.{text}

-- a member's cash in a currency
abbrev pub cash_row : (page : Bool) → Holdings → (member_and_currency : ℕ × ℕ) → List ℕ
cash_row page h who = cash_line page who.0 who.1 (h.cash who.0 who.1)

-- in the order of `Rattle.listing.specs.Listed`
unfoldable pub cash_rows : (page : Bool) → Holdings → List ℕ
cash_rows page h = each_of (cash_row page h) (cash_listed h)

-- what stands above them in a page
abbrev pub cash_head : List ℕ
cash_head =
    text "<h2>Cash</h2>\n<table>\n<thead><tr><th class=n>Member</th><th>Currency</th><th class=n>Amount</th></tr></thead>\n<tbody>\n"
