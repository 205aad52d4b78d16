-- The line that is told of a refused table (RULES 15.9).
use Rattle.std.specs.Prelude.{if◌then◌else◌, ℕ, ◌-◌, List, [], ◌∷◌, ◌++◌, map, get_or, take}
use Rattle.plain.specs.Lists.{◌is◌, within}
use Rattle.rulebook.specs.Names.{field_name}
use Rattle.text.specs.Text.{text}
use Rattle.text.specs.Parts.{line_feed}
use Rattle.wording.specs.Fill.{line}
use Rattle.cells.specs.declared.kind.Kind.{Kind}
use Rattle.cells.specs.declared.kind.Kind.TheVariants.{NoHeader, TooManyColumns, UnknownName, RepeatedName, FormMissing, MinuteMissing, TooFewCells, TooManyCells}
use Rattle.cells.specs.declared.kind.Kind.TheVariants.{EmptyCell, NotANumber, TooLarge, Quoted, UnknownForm, EmptyLine, LongLine, Record}
use Rattle.cells.specs.Cells.{cells, trim}
use Rattle.table.specs.declared.Refused.{Refused}

-- what is wrong: a refusal of the ledger by its number and its name, any other by a sentence
unfoldable pub reason : Kind → List ℕ
reason (Record number) = line "refused by #, !" (number ∷ number ∷ [])
reason NoHeader = text "the file has nothing in it"
reason TooManyColumns = text "there are more columns than a record has fields"
reason UnknownName = text "no field has this name"
reason RepeatedName = text "a column before this one has the same name"
reason FormMissing = text "no column is named form"
reason MinuteMissing = text "no column is named minute"
reason TooFewCells = text "the line has fewer cells than the first line"
reason TooManyCells = text "the line has more cells than the first line"
reason EmptyCell = text "the cell is empty"
reason NotANumber = text "the cell is not a number in plain decimal digits"
reason TooLarge = text "the number is too large"
reason Quoted = text "cells are not quoted"
reason UnknownForm = text "the cell is neither a number nor the name of a form"
reason EmptyLine = text "the line is empty"
reason LongLine = text "the line is too long"

-- where: the line, and the column where a single one is meant
unfoldable pub place : (number column : ℕ) → List ℕ
place number column = if column is 0 then line ": line #" (number ∷ []) else line ": line #, column #" (number ∷ column ∷ [])

-- a byte that is not printable ASCII is shown as a question mark
abbrev pub shown : ℕ → ℕ
shown b = if within 32 126 b then b else 63

-- a name in brackets, cut after 80 bytes; nothing where there is none
unfoldable pub bracketed : List ℕ → List ℕ
bracketed [] = []
bracketed (b ∷ rest) = text " (" ++ map shown (take 80 (b ∷ rest)) ++ text ")"

-- the whole line
unfoldable pub told : (file : List ℕ) → Refused → (name : List ℕ) → List ℕ
told file why name = (file ++ place why.line why.wrong.column ++ bracketed name) ++ (text ": " ++ reason why.wrong.kind ++ (line_feed ∷ []))

-- the name that is told: in the first line the cell itself, in any other the field's
unfoldable pub name_at : (first : List ℕ) → Refused → List ℕ
name_at first why =
    if why.line is 1 then (if why.wrong.column is 0 then [] else trim (get_or (cells first) (why.wrong.column - 1) []))
    else text (field_name why.wrong.place)
