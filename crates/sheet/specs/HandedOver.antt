-- What the program makes of what it reads. No contract can say what the C library reads or writes: the buffers are what these speak of.
use Rattle.std.specs.Prelude.{ℕ, Bool, true, List, ◌≡◌, take}
use Rattle.book.specs.Meaning.{ledger_of}
use Rattle.printing.specs.Printed.{FileCalled}
use Rattle.sheets.specs.Sheet.{sheet_of}
use Rattle.streams.specs.declared.Follows.{Follows}
use Rattle.streams.specs.declared.Follows.TheVariants.{More}

-- bytes of the input buffer, 1,024 records
abbrev pub BLOCK : ℕ
BLOCK = 40960

-- the first bytes of the input buffer were called, all of it where more may follow
pub record BlockCalled (input : List ℕ) (follows : Follows) (number : ℕ) (book area : List ℕ) (number' : ℕ) (book' area' : List ℕ) : Type 0 where
  pub size : ℕ
  pub called : FileCalled (take size input) number book area number' book' area'
  pub whole : follows ≡ More → size ≡ BLOCK

-- some bytes were read, and called as the records of one file
pub record FileRead (number : ℕ) (book area : List ℕ) (number' : ℕ) (book' area' : List ℕ) : Type 0 where
  pub file : List ℕ
  pub called : FileCalled file number book area number' book' area'

-- bytes were read and called as the records of one file; where the input ended, the sheet of the book that they lead to stands in the output buffer
pub record HandedOver (page ended : Bool) (number : ℕ) (book area : List ℕ) (number' : ℕ) (book' area' out' : List ℕ) : Type 0 where
  pub read : FileRead number book area number' book' area'
  pub sheet : ended ≡ true → out' ≡ sheet_of page (ledger_of book')
