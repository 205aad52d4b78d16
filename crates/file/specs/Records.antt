-- The records of a file.
use Rattle.std.specs.Prelude.{ℕ, zero, suc, ◌+◌, ◌/◌, List, [], ◌∷◌, length, take, drop}

-- n parts of 40 bytes, in order; the last has the bytes that are left where these are fewer
unfoldable pub parts : (n : ℕ) → List ℕ → List (List ℕ)
parts zero file = []
parts (suc n) file = take 40 file ∷ parts n (drop 40 file)

-- the records of a file: its 40-byte parts, and a short tail is one record
unfoldable pub records_of : List ℕ → List (List ℕ)
records_of file = parts ((length file + 39) / 40) file
