-- A table of words: how many rows it has, then their keys, and columns of values behind them.
use Rattle.std.specs.Prelude.{if◌then◌else◌, ℕ, ◌+◌, ◌-◌, ◌≤◌, Bool, List, [], ◌∷◌, get_or, set, Option}
use Rattle.plain.specs.Lists.{◌is◌, sum_below}
use Rattle.words.specs.Places.{first_from}

abbrev pub rows : List ℕ → ℕ
rows table = get_or table 0 0

abbrev pub key_at : List ℕ → ℕ → ℕ
key_at table i = get_or table (i + 1) 0

-- row i has the key
abbrev pub is_key : List ℕ → (key i : ℕ) → Bool
is_key table key i = key_at table i is key

-- where the row of a key stands
unfoldable pub place_of : ℕ → List ℕ → Option ℕ
place_of key table = first_from (is_key table key) 0 (rows table)

-- the sum over the rows of a figure of a row's key and its value in the column that starts at c
unfoldable pub sum_of : (c : ℕ) → (ℕ → ℕ → ℕ) → List ℕ → ℕ
sum_of c figure table = sum_below (rows table) (λ i. figure (key_at table i) (get_or table (i + c) 0))

-- what the row of a key has in that column: 0 where there is none
unfoldable pub value_of : (c : ℕ) → List ℕ → ℕ → ℕ
value_of c table key = sum_of c (λ k value. if k is key then value else 0) table

-- no two rows have one key
abbrev pub KeysOnce : List ℕ → Type 0
KeysOnce table = (key : ℕ) → sum_below (rows table) (λ i. if key_at table i is key then 1 else 0) ≤ 1

-- a row's words, each with the place at which its column starts: that of the keys starts at 1
abbrev pub Row : Type 0
Row = List (ℕ × ℕ)

-- the words of row i, in these columns
abbrev pub row_at : (columns : List ℕ) → ℕ → List ℕ → Row
row_at [] i table = []
row_at (c ∷ columns) i table = (c, get_or table (i + c) 0) ∷ row_at columns i table

-- the table with these words as row i
abbrev pub put_row : ℕ → Row → List ℕ → List ℕ
put_row i [] table = table
put_row i (cell ∷ row) table = put_row i row (set table (i + cell.0) cell.1)

-- with a row more, and without row i, into whose place the last one comes
abbrev pub with_row : Row → List ℕ → List ℕ
with_row row table = set (put_row (rows table) row table) 0 (rows table + 1)

abbrev pub without_row : (columns : List ℕ) → ℕ → List ℕ → List ℕ
without_row columns i table = set (put_row i (row_at columns (rows table - 1) table) table) 0 (rows table - 1)
