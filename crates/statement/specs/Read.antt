-- What the program makes of what it reads. No contract can say what the C library reads or writes: the buffers are what these speak of.
use Rattle.std.specs.Prelude.{ℕ, List, [], ◌++◌, ◌≡◌, take, Result, Ok}
use Rattle.file.specs.Records.{records_of}
use Rattle.streams.specs.declared.Follows.{Follows}
use Rattle.streams.specs.declared.Follows.TheVariants.{More}
use Rattle.streams.specs.declared.Told.{Told}
use Rattle.statements.specs.Stated.{RecordsStated}

-- bytes of the input buffer, 1,024 records
abbrev pub BLOCK : ℕ
BLOCK = 40_960

-- the first records of a file were called, all of them where `Whole` holds; their lines were printed, or stand in the output buffer
pub record FileStated (file : List ℕ) (Whole : Type 0) (number : ℕ) (book area waiting : List ℕ) (number' : ℕ) (book' area' waiting' : List ℕ) : Type 0 where
  pub records : List (List ℕ)
  pub left : List (List ℕ)
  pub first : records ++ left ≡ records_of file
  pub all : Whole → left ≡ []
  pub stated : RecordsStated records number book area waiting number' book' area' waiting'

-- the first bytes of the input buffer were called, all of it where more may follow
pub record BlockStated
    (input : List ℕ) (follows : Result Follows Told) (number : ℕ) (book area waiting : List ℕ) (number' : ℕ) (book' area' waiting' : List ℕ) : Type 0 where
  pub size : ℕ
  pub called : FileStated (take size input) (follows ≡ Ok More) number book area waiting number' book' area' waiting'
  pub whole : follows ≡ Ok More → size ≡ BLOCK

-- some bytes were read, and the first of their records called as those of one file
pub record FileRead (number : ℕ) (book area : List ℕ) (number' : ℕ) (book' area' waiting' : List ℕ) : Type 0 where
  pub file : List ℕ
  pub records : List (List ℕ)
  pub left : List (List ℕ)
  pub first : records ++ left ≡ records_of file
  pub stated : RecordsStated records number book area [] number' book' area' waiting'
