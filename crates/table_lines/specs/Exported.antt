-- The table that records say: every field under its name, a line for each record (RULES 16).
use Rattle.std.specs.Prelude.{ℕ, List, [], ◌∷◌, ◌++◌, map, Ok, Err}
use Rattle.rulebook.specs.Names.{field_names}
use Rattle.rulebook.specs.Record.{fields_of, read_of}
use Rattle.rulebook.specs.declared.Order.{Order}
use Rattle.rulebook.specs.Answers.{Read, number_of}
use Rattle.text.specs.Text.{text}
use Rattle.text.specs.Parts.{line_feed, join}
use Rattle.file.specs.Records.{records_of}
use Rattle.wording.specs.Fill.{line}

-- the first line: the fields' names, with commas between them
unfoldable pub name_line : List ℕ
name_line = join 44 (map text field_names) ++ (line_feed ∷ [])

-- an order's line: the name of its form, then its other fields
unfoldable pub order_line : Order → List ℕ
order_line order = line "^,#,#,#,#,#,#,#,#,#,#,#,#,#,#,#,#,#\n" (fields_of order)

-- a record that does not read has a line of its own, which says why
unfoldable pub read_line : Read → List ℕ
read_line (Ok order) = order_line order
read_line (Err refusal) = line "unreadable: refused by # (!)\n" (number_of refusal ∷ number_of refusal ∷ [])

unfoldable pub record_lines : List (List ℕ) → List ℕ
record_lines [] = []
record_lines (octets ∷ rest) = read_line (read_of octets) ++ record_lines rest

-- what is written of a record file
unfoldable pub exported : (file : List ℕ) → List ℕ
exported file = name_line ++ record_lines (records_of file)
