-- The lines of a statement (RULES 17): what an answer and each row that a call wrote say in words.
use Rattle.std.specs.Prelude.{if◌then◌else◌, ℕ, zero, suc, Bool, List, [], ◌∷◌, ◌++◌, take, drop, Ok, Err}
use Rattle.plain.specs.Lists.{◌is◌}
use Rattle.rulebook.specs.Rows.{Row, posting, notice, posting_in, notice_in}
use Rattle.rulebook.specs.Answers.{Answer, number_of}
use Rattle.wording.specs.Fill.{line}
use Rattle.row_lines.specs.Rows.{posting_line, notice_line}

-- the line of a row's 16 bytes, as any reader of RULES 11 reads them
unfoldable pub row_line : (posts : Bool) → (row : List ℕ) → List ℕ
row_line posts row = if posts then posting_line (posting_in row) else notice_line (notice_in row)

-- the lines of the first rows in an area
unfoldable pub row_lines : (posts : Bool) → (rows : ℕ) → (area : List ℕ) → List ℕ
row_lines posts zero area = []
row_lines posts (suc rows) area = row_line posts (take 16 area) ++ row_lines posts rows (drop 16 area)

-- and of rows that are given as values
unfoldable pub lines_of : List Row → List ℕ
lines_of [] = []
lines_of (posting p ∷ rest) = posting_line p ++ lines_of rest
lines_of (notice n ∷ rest) = notice_line n ++ lines_of rest

-- RULES 17.3: form 0 is that of a record that does not read, and has no name
unfoldable pub refused_line : (number form refusal : ℕ) → List ℕ
refused_line number form refusal =
    if form is 0 then line "#: refused by #, !\n" (number ∷ refusal ∷ refusal ∷ [])
    else line "# ^: refused by #, !\n" (number ∷ form ∷ refusal ∷ refusal ∷ [])

unfoldable pub answer_line : (number form : ℕ) → Answer → List ℕ
answer_line number form (Ok counts) = line "# ^: accepted\n" (number ∷ form ∷ [])
answer_line number form (Err refusal) = refused_line number form (number_of refusal)
