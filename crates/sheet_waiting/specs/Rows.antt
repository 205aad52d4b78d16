-- The waiting items (RULES 18.4): the rows, in order, and the head of their table.
use Rattle.std.specs.Prelude.{ℕ, Bool, List, ◌++◌}
use Rattle.rulebook.specs.declared.Item.{Item}
use Rattle.listing.specs.InOrder.{each_of}
use Rattle.sheet_item.specs.ItemLine.{item_line}
use Rattle.text.specs.Text.{text}

-- in order of arrival
unfoldable pub waiting_rows : (page : Bool) → List Item → List ℕ
waiting_rows page items = each_of (item_line page) items

-- what stands above them in a page
abbrev pub waiting_head : List ℕ
waiting_head =
    text "<h2>Waiting items, from and to as member/type/shareholder</h2>\n<table>\n<thead><tr><th>State</th><th>Reference</th><th>From</th>"
    ++ text "<th>To</th><th class=n>Security</th><th class=n>Quantity</th><th class=n>Amount</th><th>Currency</th><th class=n>Trade day</th>"
    ++ text "<th class=n>Settlement day</th><th>Marked</th></tr></thead>\n<tbody>\n"
