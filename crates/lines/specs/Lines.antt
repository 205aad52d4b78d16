-- The lines of the printing program.
use Rattle.std.specs.Prelude.{ℕ, List, ◌++◌}
use Prim.Native.String.{String}
use Rattle.rulebook.specs.Call.{answer_number, answer_rows}
use Rattle.rulebook.specs.Answers.{Answer}
use Rattle.rulebook.specs.declared.Security.{Security}
use Rattle.text.specs.Text.{text, decimal}

-- words, and a number behind them
abbrev pub figure : String → ℕ → List ℕ
figure words n = text words ++ decimal n

-- RULES 13.3
unfoldable pub answer_line : ℕ → Answer → List ℕ
answer_line number answer = decimal number ++ figure " " (answer_number answer) ++ figure " " (answer_rows answer) ++ text "\n"

-- RULES 13.4
unfoldable pub custody_line : Security → List ℕ
custody_line security =
    figure "CUSTODY " security.code ++ figure " ISSUED " security.issued.0 ++ figure " HELD " security.held.0
    ++ figure " OUTSIDE " security.outside.0 ++ text "\n"
