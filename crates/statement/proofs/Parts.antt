-- A walk over a file in parts, each printed before the next. Assumes nothing.
use Prim.Native.Nat.{ℕ, ◌+◌, ◌*◌, ◌/◌, ◌%◌, ◌≤◌, ◌<◌}
use native.Mathlib.Omega.{arith}
use mathlib.Core.List.{List, [], ◌∷◌, ◌++◌, append_assoc, append-nil}
use mathlib.Core.Path.{◌≡◌, refl, sym, ap, ◌∙◌}
use lib.ListN.{length, drop, length-append}
use Rattle.book.specs.Stored.{Kept}
use Rattle.book.specs.Meaning.{ledger_of}
use Rattle.file.specs.Records.{records_of}
use Rattle.file.proofs.Walking.{no_records, records_append}
use Rattle.printing.specs.Printed.{lent}
use Rattle.statements.specs.Stated.{statement_lines, PartPut, RecordsStated}
use Rattle.statements.specs.declared.calls.Part.{Part}
use Rattle.statements.proofs.Pieces.{stated_nothing, part-stated, stated_printed, stated_more}
use Rattle.statement.specs.Read.{BLOCK, FileStated, FileRead}

-- the first records of the file were called, and those of the rest are left
pub record Walked (file : List ℕ) (number : ℕ) (book lent waiting rest : List ℕ) (number' : ℕ) (book' lent' waiting' : List ℕ) : Type 0 where
  pub records : List (List ℕ)
  pub left : records ++ records_of rest ≡ records_of file
  pub stated : RecordsStated records number book lent waiting number' book' lent' waiting'

pub walked_none : (file : List ℕ) (number : ℕ) (book area waiting : List ℕ) → Kept book → Walked file number book area waiting file number book area waiting
walked_none file number book area waiting kept = record { records = []; left = refl; stated = stated_nothing number book area waiting kept }

module _ {file : List ℕ} {number : ℕ} {book area waiting rest : List ℕ} {number' : ℕ} {book' area' waiting' : List ℕ}
    (w : Walked file number book area waiting rest number' book' area' waiting') where
  pub walked_printed : Walked file number book area waiting rest number' book' area' []
  walked_printed = record { records = w.records; left = w.left; stated = stated_printed w.stated }

  -- how many records there are
  pub walked_length : length w.records + length (records_of rest) ≡ length (records_of file)
  walked_length = sym (length-append w.records (records_of rest)) ∙ ap length w.left

  -- the file has ended
  pub walked_all : length rest ≡ 0 → w.records ++ [] ≡ records_of file
  walked_all none = ap (λ (l : List (List ℕ)). w.records ++ l) (sym (no_records rest none)) ∙ w.left

module _ {file : List ℕ} {number : ℕ} {book area waiting rest : List ℕ} {number' : ℕ} {book' area' out : List ℕ} {part : Part}
    {book'' area'' out'' : List ℕ} (w : Walked file number book area waiting rest number' book' area' out)
    (p : PartPut 524288 rest number' (lent book' area' out) part (lent book'' area'' out'')) where
  pub walked_part : Walked file number book area waiting (drop part.size rest) part.number book'' area'' out''
  walked_part = record {
    records = w.records ++ p.records;
    left =
        append_assoc w.records p.records _ ∙ ap (λ (l : List (List ℕ)). w.records ++ l) p.met ∙ w.left;
    stated = stated_more w.stated (part-stated p);
  }

  -- a part has records, or what stood in the buffer leaves it
  pub part-less : part.size < length rest
      → length (records_of (drop part.size rest)) * 524289 < length (records_of rest) * 524289 + length out
  unfolding statement_lines
  part-less more = go p.records refl
    where
      both : length p.records + length (records_of (drop part.size rest)) ≡ length (records_of rest)
      both = sym (length-append p.records (records_of (drop part.size rest))) ∙ ap length p.met

      go : (l : List (List ℕ)) → p.records ≡ l → length (records_of (drop part.size rest)) * 524289 < length (records_of rest) * 524289 + length out
      go [] e =
          let none = ap length e in
          let lines = ap (λ (l : List (List ℕ)). length (out ++ statement_lines number' (ledger_of book') area' l)) e in
          let long : length out'' ≡ length out = ap length p.stated.lines ∙ lines ∙ ap length (append-nil out) in
          omega (arith, both, none, long, p.full more)
      go (r ∷ l) e = let some = ap length e in omega (arith, both, some)

-- ---- block after block

-- where all of a block's records were called, these are its records
pub all-called :
    {block : List ℕ} {Whole : Type 0} {number : ℕ} {book area waiting : List ℕ} {number' : ℕ} {book' area' waiting' : List ℕ}
    → (f : FileStated block Whole number book area waiting number' book' area' waiting') → Whole → f.records ≡ records_of block
all-called f whole = sym (append-nil f.records) ∙ ap (λ (l : List (List ℕ)). f.records ++ l) (sym (f.all whole)) ∙ f.first

-- whole records were read so far, and called as one file
pub record Whole (number : ℕ) (book lent : List ℕ) (number' : ℕ) (book' lent' waiting' : List ℕ) : Type 0 where
  pub file : List ℕ
  pub whole : length file % 40 ≡ 0
  pub stated : RecordsStated (records_of file) number book lent [] number' book' lent' waiting'

pub whole-none : (number : ℕ) (book area : List ℕ) → Kept book → Whole number book area number book area []
whole-none number book area kept = record { file = []; whole = refl; stated = rw (no_records [] refl) (stated_nothing number book area [] kept) }

module _ {number : ℕ} {book area : List ℕ} {number' : ℕ} {book' area' waiting' : List ℕ} (w : Whole number book area number' book' area' waiting') where
  -- the records of what was read, and of a block behind it
  both : (block : List ℕ) → records_of (w.file ++ block) ≡ records_of w.file ++ records_of block
  both block = records_append (length w.file / 40) w.file block (omega (arith, w.whole))

  module _ {block : List ℕ} {All : Type 0} {number'' : ℕ} {book'' area'' waiting'' : List ℕ}
      (f : FileStated block All number' book' area' waiting' number'' book'' area'' waiting'') where
    pub file_read : FileRead number book area number'' book'' area'' waiting''
    file_read = record {
      file = w.file ++ block;
      records = records_of w.file ++ f.records;
      left = f.left;
      first =
          append_assoc (records_of w.file) f.records f.left ∙ ap (λ (l : List (List ℕ)). records_of w.file ++ l) f.first ∙ sym (both block);
      stated = stated_more w.stated f.stated;
    }

    -- a full block, all of whose records were called
    pub whole-block : length block ≡ BLOCK → All → Whole number book area number'' book'' area'' waiting''
    whole-block full all = record {
      file = w.file ++ block;
      whole = omega (arith, w.whole, full, length-append w.file block);
      stated = rw (both block, ← all-called f all) (stated_more w.stated f.stated);
    }

  -- nothing more is read
  pub all_read : FileRead number book area number' book' area' waiting'
  all_read = record {
    file = w.file;
    records = records_of w.file;
    left = [];
    first = append-nil (records_of w.file);
    stated = w.stated;
  }
