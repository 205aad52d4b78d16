-- What is issued, held and outside of each security (RULES 18.8): the rows, in order, and the head of their table.
use Rattle.std.specs.Prelude.{ℕ, Bool, List, ◌++◌}
use Rattle.rulebook.specs.declared.Security.{Security}
use Rattle.listing.specs.InOrder.{each_of}
use Rattle.sheet_custody.specs.Line.{security_line}
use Rattle.text.specs.Text.{text}

-- in order of admission
unfoldable pub custody_rows : (page : Bool) → List Security → List ℕ
custody_rows page securities = each_of (security_line page) securities

-- what stands above them in a page
abbrev pub custody_head : List ℕ
custody_head =
    text "<h2>Custody</h2>\n<table>\n<thead><tr><th class=n>Security</th><th class=n>Issued</th><th class=n>Held</th>"
    ++ text "<th class=n>Outside</th></tr></thead>\n<tbody>\n"
