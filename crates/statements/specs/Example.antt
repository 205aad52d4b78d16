-- The example of RULES 17.7: what is printed of the four records of RULES 13.7, on the fresh book.
use Rattle.std.specs.Prelude.{◌++◌, ◌≡◌}
use Rattle.printing.specs.FiveLines.{example}
use Rattle.text.specs.Text.{text}
use Rattle.statements.specs.Stated.{statement}

unfoldable pub EightLines : Type 0
EightLines =
    statement example
    ≡ text "1 open day: accepted\n"
    ++ text "2 admit: accepted\n"
    ++ text "  debit security 101 ISSUED 1000\n"
    ++ text "  credit security 101 OUTSIDE 1000\n"
    ++ text "3 deposit: accepted\n"
    ++ text "  debit security 101 OUTSIDE 400\n"
    ++ text "  credit security 101 member 7 type 20 shareholder 5 quantity 400\n"
    ++ text "4 withdrawal: refused by 16, there is less than is asked for\n"
