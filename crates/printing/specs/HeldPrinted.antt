-- What is printed as held (RULES 13.4).
use Rattle.std.specs.Prelude.{List, map, ◌≡◌, ℕ}
use Rattle.rulebook.specs.Ledger.{Holdings, fresh, with_held, held}
use Rattle.file.specs.Records.{records_of}
use Rattle.printing.specs.Printed.{book_after, custody_from, custody_lines}

-- the custody lines with every held count added up over the accounts
unfoldable pub added_up : Holdings → List ℕ
added_up h = custody_from (map (λ s. with_held (held s.code h) s) h.securities)

-- after every record file, the lines that are printed are these
unfoldable pub HeldPrinted : Type 0
HeldPrinted =
    (area file : List ℕ) → custody_lines (book_after fresh area (records_of file)).holdings ≡ added_up (book_after fresh area (records_of file)).holdings
