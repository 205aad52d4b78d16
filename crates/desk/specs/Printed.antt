-- What the program makes of what it reads. No contract can say what the C library reads or writes: the buffers are what these speak of.
use Rattle.std.specs.Prelude.{ℕ, List, ◌≡◌, take, Result, Ok}
use Rattle.streams.specs.declared.Follows.{Follows}
use Rattle.streams.specs.declared.Follows.TheVariants.{More}
use Rattle.streams.specs.declared.Told.{Told}
use Rattle.printing.specs.Printed.{FileCalled}

-- bytes of the input buffer, 1,024 records
abbrev pub BLOCK : ℕ
BLOCK = 40960

-- the first bytes of the input buffer were called, all of it where more may follow
pub record ReadAndCalled (input : List ℕ) (follows : Result Follows Told) (number : ℕ) (book area : List ℕ) (number' : ℕ) (book' area' : List ℕ) : Type 0 where
  pub size : ℕ
  pub called : FileCalled (take size input) number book area number' book' area'
  pub whole : follows ≡ Ok More → size ≡ BLOCK

-- some bytes were read, and called as the records of one file
pub record FileRead (number : ℕ) (book area : List ℕ) (number' : ℕ) (book' area' : List ℕ) : Type 0 where
  pub file : List ℕ
  pub called : FileCalled file number book area number' book' area'
