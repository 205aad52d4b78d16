-- A security's line of text is the one of the printing program. Assumes nothing.
use Prim.Native.Nat.{ℕ}
use mathlib.Core.List.{List, ◌++◌, append_assoc}
use mathlib.Core.Path.{◌≡◌}
use Rattle.lines.specs.Lines.{custody_line}
use Rattle.text.specs.Text.{text, decimal}
use Rattle.wording.specs.Fill.{is_sign, said, part, left, fill}
use Rattle.sheet_custody.specs.Line.{security_line}
use Rattle.sheet_custody.specs.AsPrinted.{AsPrinted}

-- words and numbers, one behind the other or each number with its words
regrouped :
    (s t u v w a b c d : List ℕ) → s ++ (a ++ (t ++ (b ++ (u ++ (c ++ (v ++ (d ++ w)))))))
    ≡ (s ++ a) ++ (t ++ b) ++ (u ++ c) ++ (v ++ d) ++ w
regrouped s t u v w a b c d = simp append_assoc

pub as_printed : AsPrinted
unfolding AsPrinted security_line custody_line is_sign said part left fill
as_printed security =
    regrouped (text "CUSTODY ") (text " ISSUED ") (text " HELD ") (text " OUTSIDE ") (text "\n") (decimal security.code)
    (decimal security.issued.0) (decimal security.held.0) (decimal security.outside.0)
