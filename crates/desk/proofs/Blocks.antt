-- Records that are called, block after block. Assumes nothing.
use Rattle.std.proofs.Common.{◌≡◌, ℕ, ◌%◌, List, [], ◌++◌, length, refl, arith, length-append}
use Rattle.book.specs.Stored.{Kept}
use Rattle.printing.specs.Printed.{FileCalled}
use Rattle.printing.proofs.Blocks.{file_none, file_then}
use Rattle.desk.specs.Printed.{BLOCK, FileRead}

-- whole records were read so far, and called as one file
pub record Whole (number : ℕ) (book area : List ℕ) (number' : ℕ) (book' area' : List ℕ) : Type 0 where
  pub file : List ℕ
  pub whole : length file % 40 ≡ 0
  pub called : FileCalled file number book area number' book' area'

pub whole_none : (number : ℕ) (book area : List ℕ) → Kept book → Whole number book area number book area
whole_none number book area kept = record { file = []; whole = refl; called = file_none number book area kept }

module _ {number : ℕ} {book area : List ℕ} {number' : ℕ} {book' area' : List ℕ} (w : Whole number book area number' book' area')
    {block : List ℕ} {number'' : ℕ} {book'' area'' : List ℕ} (called : FileCalled block number' book' area' number'' book'' area'') where
  -- what was read with a block behind it
  pub block_more : FileRead number book area number'' book'' area''
  block_more = record { file = w.file ++ block; called = file_then w.whole w.called called }

  -- a full one
  pub whole_more : length block ≡ BLOCK → Whole number book area number'' book'' area''
  whole_more full = record {
    file = w.file ++ block;
    whole = omega (arith, w.whole, full, length-append w.file block);
    called = file_then w.whole w.called called;
  }
