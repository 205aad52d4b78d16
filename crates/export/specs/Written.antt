-- What the program makes of what it reads. No contract can say what the C library reads or writes: the buffers and the count of records are what these
-- speak of. `printed` are bytes that have left the output buffer; that the system wrote them no contract can say.
use Rattle.std.specs.Prelude.{ℕ, ◌+◌, ◌≤◌, List, ◌++◌, ◌≡◌, length, take}
use Rattle.streams.specs.declared.Follows.{Follows}
use Rattle.streams.specs.declared.Follows.TheVariants.{More}
use Rattle.file.specs.Records.{records_of}
use Rattle.table_lines.specs.Exported.{record_lines, exported}

-- bytes of the input buffer, 80 records, and of half of the output buffer
abbrev pub BLOCK : ℕ
BLOCK = 3_200

abbrev pub HALF : ℕ
HALF = 131_072

-- the first of the lines in the buffer have left it, so that there is room for a block's; the others still stand in it
pub record Emptied (out out' : List ℕ) : Type 0 where
  pub printed : List ℕ
  pub lines : printed ++ out' ≡ out
  pub room : length out' ≤ HALF

-- the lines of a file's records come behind those that waited in the buffer: the first of all these bytes have left it, and the rest waits in it. The count
-- of records goes on by as many as the file has
pub record FileWritten (file : List ℕ) (count : ℕ) (waiting : List ℕ) (count' : ℕ) (waiting' : List ℕ) : Type 0 where
  pub counted : count' ≡ count + length (records_of file)
  pub printed : List ℕ
  pub lines : printed ++ waiting' ≡ waiting ++ record_lines (records_of file)

-- so it is of the first bytes of the input buffer, of all of it where more may follow
pub record BlockWritten (input : List ℕ) (count : ℕ) (waiting : List ℕ) (follows : Follows) (count' : ℕ) (waiting' : List ℕ) : Type 0 where
  pub size : ℕ
  pub written : FileWritten (take size input) count waiting count' waiting'
  pub whole : follows ≡ More → size ≡ BLOCK

-- and of some bytes, read block after block, as one file
pub record RecordsWritten (count : ℕ) (waiting : List ℕ) (count' : ℕ) (waiting' : List ℕ) : Type 0 where
  pub file : List ℕ
  pub written : FileWritten file count waiting count' waiting'

-- what has left the buffer, and what waits in it, is the table of some bytes that were read, as one file
pub record TableWritten (count count' : ℕ) (waiting' : List ℕ) : Type 0 where
  pub file : List ℕ
  pub counted : count' ≡ count + length (records_of file)
  pub printed : List ℕ
  pub lines : printed ++ waiting' ≡ exported file
