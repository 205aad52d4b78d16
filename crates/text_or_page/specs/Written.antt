-- A sheet is written as lines of text, or as a page of tables. Each thing is said once: the same numbers in the place of the signs of a line, or of a row.
use Rattle.std.specs.Prelude.{if◌then◌else◌, ℕ, ◌/◌, ◌%◌, Bool, List, [], ◌∷◌}
use Prim.Native.String.{String}
use Rattle.text.specs.Text.{text}
use Rattle.wording.specs.Fill.{fill}

-- the numbers in a pattern's signs (`Rattle.wording.specs.Fill`): in the first where a line of text is written, in the second where a page is
abbrev pub written : (page : Bool) → (line row : String) → (numbers : List ℕ) → List ℕ
written page line row numbers = fill (if page then text row else text line) numbers

-- words where something is so, and nothing where it is not
abbrev pub written_where : (page holds : Bool) → (line row : String) → List ℕ
written_where page holds line row = if holds then written page line row [] else []

-- what stands only in a page
abbrev pub in_page : (page : Bool) → List ℕ → List ℕ
in_page page bytes = if page then bytes else []

-- an amount in hundredths as its units and two digits, for the signs #.##, and numbers behind it
abbrev pub cents : (hundredths : ℕ) → List ℕ → List ℕ
cents n rest = n / 100 ∷ n % 100 / 10 ∷ n % 10 ∷ rest

-- a minute of the day as a clock's four digits, for the signs ##:##, and numbers behind it
abbrev pub clock : (minute : ℕ) → List ℕ → List ℕ
clock minute rest = minute / 60 / 10 ∷ minute / 60 % 10 ∷ minute % 60 / 10 ∷ minute % 60 % 10 ∷ rest
