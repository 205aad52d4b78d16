-- Lines of records that are put into a buffer and printed from it, block after block. Assumes nothing.
use Prim.Native.Nat.{ℕ, ◌/◌, ◌%◌}
use native.Mathlib.Omega.{arith}
use mathlib.Core.List.{List, [], ◌∷◌, ◌++◌, append_assoc, append-nil}
use mathlib.Core.Path.{◌≡◌, refl, sym, ap, ◌∙◌}
use lib.ListN.{length, length-append}
use Rattle.file.specs.Records.{records_of}
use Rattle.file.proofs.Walking.{no_records, records_append}
use Rattle.table_lines.specs.Exported.{name_line, record_lines, exported}
use Rattle.export.specs.Written.{BLOCK, FileWritten, RecordsWritten, TableWritten}

lines-append : (first more : List (List ℕ)) → record_lines (first ++ more) ≡ record_lines first ++ record_lines more
unfolding record_lines
lines-append [] more = refl
lines-append (octets ∷ first) more = rw (lines-append first more, append_assoc)

-- ---- one file

pub nothing_written : (count : ℕ) (waiting : List ℕ) → FileWritten [] count waiting count waiting
unfolding record_lines
nothing_written count waiting = record {
  counted = rw (no_records [] refl) (omega arith);
  printed = [];
  lines = rw (no_records [] refl, append-nil waiting);
}

module _ {file : List ℕ} {count : ℕ} {waiting : List ℕ} {count' : ℕ} {waiting' : List ℕ} (w : FileWritten file count waiting count' waiting') where
  -- the first of what waits leaves the buffer
  pub then_printed : {waiting'' : List ℕ} (printed : List ℕ) → printed ++ waiting'' ≡ waiting' → FileWritten file count waiting count' waiting''
  then_printed {waiting''} printed e = record {
    counted = w.counted;
    printed = w.printed ++ printed;
    lines = append_assoc w.printed printed waiting'' ∙ rw e w.lines;
  }

  -- whole records, and more behind them
  pub then_more : {block : List ℕ} {count'' : ℕ} {waiting'' : List ℕ} → length file % 40 ≡ 0 → FileWritten block count' waiting' count'' waiting''
      → FileWritten (file ++ block) count waiting count'' waiting''
  then_more {block} {count''} {waiting''} whole m =
      let both : records_of (file ++ block) ≡ records_of file ++ records_of block =
      records_append (length file / 40) file block (omega (arith, whole)) in
      record {
        counted = m.counted ∙ rw (w.counted, both, length-append (records_of file) (records_of block)) (omega arith);
        printed = w.printed ++ m.printed;
        lines =
            append_assoc w.printed m.printed waiting''
            ∙ ap (λ (l : List ℕ). w.printed ++ l) m.lines
            ∙ sym (append_assoc w.printed waiting' _)
            ∙ rw (w.lines, both, lines-append (records_of file) (records_of block)) (append_assoc waiting (record_lines (records_of file)) _);
      }

-- ---- block after block

-- whole records were read so far
pub record Whole (count : ℕ) (waiting : List ℕ) (count' : ℕ) (waiting' : List ℕ) : Type 0 where
  pub file : List ℕ
  pub whole : length file % 40 ≡ 0
  pub written : FileWritten file count waiting count' waiting'

pub whole-none : (count : ℕ) (waiting : List ℕ) → Whole count waiting count waiting
whole-none count waiting = record { file = []; whole = refl; written = nothing_written count waiting }

module _ {count : ℕ} {waiting : List ℕ} {count' : ℕ} {waiting' : List ℕ} (w : Whole count waiting count' waiting') where
  pub whole-printed : {waiting'' : List ℕ} (printed : List ℕ) → printed ++ waiting'' ≡ waiting' → Whole count waiting count' waiting''
  whole-printed printed e = record { file = w.file; whole = w.whole; written = then_printed w.written printed e }

  -- nothing more is read
  pub whole_written : RecordsWritten count waiting count' waiting'
  whole_written = record { file = w.file; written = w.written }

  -- a block more, and a full one
  module _ {block : List ℕ} {count'' : ℕ} {waiting'' : List ℕ} (m : FileWritten block count' waiting' count'' waiting'') where
    pub block_more : RecordsWritten count waiting count'' waiting''
    block_more = record { file = w.file ++ block; written = then_more w.written w.whole m }

    pub whole-more : length block ≡ BLOCK → Whole count waiting count'' waiting''
    whole-more full = record {
      file = w.file ++ block;
      whole = omega (arith, w.whole, length-append w.file block);
      written = then_more w.written w.whole m;
    }

-- ---- the first line before them

pub table_written_lem :
    {count count' : ℕ} {waiting waiting' : List ℕ} → RecordsWritten count waiting count' waiting' → waiting ≡ name_line → TableWritten count count' waiting'
unfolding exported
table_written_lem {waiting' = waiting'} r e =
    let w = r.written in
    record { file = r.file; counted = w.counted; printed = w.printed; lines = w.lines ∙ rw e }
