-- The example of RULES 13.7: what is printed of four records, on the fresh book.
use Rattle.std.specs.Prelude.{ℕ, List, ◌++◌, ◌≡◌, replicate}
use Rattle.rulebook.specs.Ledger.{fresh}
use Rattle.rulebook.specs.Record.{record_of}
use Rattle.rulebook.specs.Desk.{opens, admits, deposits, withdraws}
use Rattle.text.specs.Text.{text}
use Rattle.printing.specs.Printed.{printed}

-- a day of kind 1 opens at 470; 1,000 shares of security 101 are admitted at 500; member 7 deposits 400 at 540 and withdraws 401 at 541
unfoldable pub example : List ℕ
example =
    record_of (opens 470 1) ++ record_of (admits 500 1_000) ++ record_of (deposits 540 7 400)
    ++ record_of (withdraws 541 7 401)

unfoldable pub FiveLines : Type 0
FiveLines =
    printed 1 fresh (replicate 4_096 0) example ≡ text "1 0 0\n2 0 2\n3 0 2\n4 16 0\nCUSTODY 101 ISSUED 1000 HELD 400 OUTSIDE 600\n"
