-- What the program makes of what it reads. No contract can say what the C library reads or writes: the buffers are what these speak of.
use Rattle.std.specs.Prelude.{ℕ, ◌≤◌, Option, Result, Ok, Err, List, [], ◌++◌, ◌≡◌, take}
use Rattle.cells.specs.declared.kind.Kind.TheVariants.{LongLine}
use Rattle.cells.specs.Cells.{lines_of}
use Rattle.table.specs.Lines.{Imported}
use Rattle.table.specs.Lines.Imported.{refused_as}
use Rattle.table.specs.Import.{import_of}
use Rattle.table.specs.Blocks.{walk, outcome}
use Rattle.table_buffer.specs.Buffers.{BLOCK}
use Rattle.table_buffer.specs.Blocks.{inside, Ordered, Goes}
use Rattle.table_buffer.specs.declared.Reading.{Reading}
use Rattle.table_buffer.specs.declared.Next.{Next}
use Rattle.table_buffer.specs.declared.Rest.TheVariants.{More, Ended}
use Rattle.import.specs.declared.Stop.{Stop}

-- the answer is what the table says: its refusal, unless a line is too long to be read; or that it says orders
unfoldable pub Says : Imported → Result ℕ Stop → Type 0
Says imported (Ok line) = Ordered imported
Says imported (Err (Stop.Refused why)) = (why.wrong.kind ≡ LongLine → ⊥) → imported ≡ refused_as why
Says imported (Err Stop.Failed) = Unit {0}

-- some bytes were read behind those at the buffer's start, as many as it has room for where more may follow
pub record ReadOn (input : List ℕ) (held line : ℕ) (empty : Option ℕ) (input' : List ℕ) (reading : Reading) : Type 0 where
  pub more : List ℕ
  pub bytes : inside reading input' ≡ take held input ++ more
  pub starts : reading.from ≡ 0
  pub ends : reading.size ≤ BLOCK
  pub full : reading.rest ≡ More → reading.size ≡ BLOCK
  pub same_line : reading.line ≡ line
  pub same_empty : reading.empty ≡ empty

-- some bytes were read behind those in the buffer, none where the file had ended, and the answer is that of their lines
pub record RowsRead (places input : List ℕ) (reading : Reading) (read : Result ℕ Stop) : Type 0 where
  pub more : List ℕ
  pub only : reading.rest ≡ Ended → more ≡ []
  pub says : Says (outcome (walk places reading.line reading.empty (lines_of (inside reading input ++ more)))) read

-- some bytes were read, and the answer is that of these bytes as one file
pub record FileRead (read : Result ℕ Stop) : Type 0 where
  pub file : List ℕ
  pub says : Says (import_of file) read

-- what the lines in the buffer came to, unless something failed
unfoldable pub Comes : List ℕ → Reading → (input input' : List ℕ) → Result Next Stop → Type 0
Comes places reading input input' (Ok next) = Goes places reading input input' (Ok next)
Comes places reading input input' (Err (Stop.Refused why)) = Goes places reading input input' (Err why)
Comes places reading input input' (Err Stop.Failed) = Unit {0}
