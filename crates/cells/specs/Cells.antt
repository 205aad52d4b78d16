-- Bytes to lines, a line to cells, a cell to a number.
use Rattle.std.specs.Prelude.{if◌then◌else◌, ℕ, ◌+◌, ◌-◌, ◌*◌, ◌^◌, Bool, not, ◌||◌, List, [], ◌∷◌, length, Result, Ok, Err}
use Rattle.plain.specs.Lists.{◌is◌, ◌below◌, ◌one_of◌, within}
use Rattle.text.specs.Parts.{line_feed, up_to, joined, split}
use Rattle.cells.specs.declared.kind.Kind.{Kind}
use Rattle.cells.specs.declared.kind.Kind.TheVariants.{EmptyCell, NotANumber, TooLarge, Quoted}

abbrev pub comma : ℕ
comma = 44

abbrev pub quote : ℕ
quote = 34

-- ---- lines

-- the lines of a text: a line feed ends a line, and the last line may do without
unfoldable pub lines_of : List ℕ → List (List ℕ)
lines_of [] = []
lines_of (b ∷ rest) = let others = lines_of rest in if b is line_feed then [] ∷ others else joined b others

-- a byte before the first line of those that have an end
unfoldable pub onto : ℕ → List (List ℕ) → List (List ℕ)
onto b [] = []
onto b (line ∷ lines) = (b ∷ line) ∷ lines

-- the lines of a block that have their end in it
unfoldable pub whole_lines : List ℕ → List (List ℕ)
whole_lines [] = []
whole_lines (b ∷ rest) = let others = whole_lines rest in if b is line_feed then [] ∷ others else onto b others

-- and what stands behind the last of them: the start of a line that goes on in the next block
unfoldable pub tail_of : List ℕ → List ℕ
tail_of [] = []
tail_of (b ∷ rest) = let others = tail_of rest in if up_to line_feed (b ∷ rest) below length (b ∷ rest) then others else b ∷ rest

-- ---- blanks

-- what may stand around a cell: spaces, tabs, and the carriage return of a line that ends in both
abbrev pub blank : ℕ → Bool
blank b = b is 32 || b is 13 || b is 9

-- without the blanks before
unfoldable pub front : List ℕ → List ℕ
front [] = []
front (b ∷ rest) = let others = front rest in if blank b then others else b ∷ rest

-- without the blanks behind
unfoldable pub before : ℕ → List ℕ → List ℕ
before b [] = if blank b then [] else b ∷ []
before b (c ∷ rest) = b ∷ c ∷ rest

unfoldable pub back : List ℕ → List ℕ
back [] = []
back (b ∷ rest) = before b (back rest)

unfoldable pub trim : List ℕ → List ℕ
trim cell = back (front cell)

-- a line that has nothing but blanks
unfoldable pub is_empty : List ℕ → Bool
is_empty line = length (front line) is 0

-- a line before others of which those at the end that are empty were left out
unfoldable pub leading : List ℕ → List (List ℕ) → List (List ℕ)
leading line [] = if is_empty line then [] else line ∷ []
leading line (next ∷ others) = line ∷ next ∷ others

-- lines without the empty ones at the end
unfoldable pub full_lines : List (List ℕ) → List (List ℕ)
full_lines [] = []
full_lines (line ∷ others) = leading line (full_lines others)

-- ---- cells

-- the cells of a line: one more than it has commas
abbrev pub cells : List ℕ → List (List ℕ)
cells line = split comma line

-- the kind of a cell that cannot be read: a quote in it is told first
unfoldable pub strange : (kind : Kind) → List ℕ → Kind
strange kind text = if quote one_of text then Quoted else kind

-- digits after a number that was read before them; the kind is that of a byte that is no digit
unfoldable pub read_on : (kind : Kind) → ℕ → List ℕ → Result ℕ Kind
read_on kind n [] = Ok n
read_on kind n (b ∷ rest) =
    let next = n * 10 + (b - 48) in
    let others = read_on kind next rest in
    if not (within 48 57 b) then Err kind else if next below 2 ^ 64 then others else Err TooLarge

-- the number in a text: plain decimal digits, at least one
unfoldable pub number_in : List ℕ → Result ℕ Kind
number_in text = let number = read_on (strange NotANumber text) 0 text in if length text is 0 then Err EmptyCell else number
