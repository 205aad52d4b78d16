-- A file that is read in blocks prints what it prints as one: a record that straddles two reads is one record. Assumes nothing.
use Prim.Native.Nat.{ℕ, ◌+◌, ◌*◌, ◌/◌, ◌%◌}
use native.Mathlib.Omega.{arith}
use mathlib.Core.List.{List, [], ◌∷◌, ◌++◌, append_assoc, append-nil}
use mathlib.Core.Path.{◌≡◌, refl, sym, ◌∙◌}
use lib.ListN.{length, length-append}
use Rattle.rulebook.specs.Ledger.{Ledger}
use Rattle.file.specs.Records.{records_of}
use Rattle.book.specs.Stored.{Kept}
use Rattle.file.proofs.Walking.{no_records, records_append}
use Rattle.printing.specs.Printed.{answer_lines, book_after, area_after, custody_lines, printed, printed_in_blocks, joined, WholeBlocks, Lent, BlockPut, FileCalled}
use Rattle.printing.proofs.AnswerLines.{book_append, area_append, lines-append}

module _ (number : ℕ) (book : Ledger) (area : List ℕ) where
  nothing : printed number book area [] ≡ custody_lines book.holdings
  unfolding printed answer_lines book_after
  nothing = rw (no_records [] refl)

  block_and_rest :
      (block rest : List ℕ) → length block % 40 ≡ 0
      → answer_lines number book area (records_of block)
      ++ printed (number + length (records_of block)) (book_after book area (records_of block)) (area_after book area (records_of block)) rest
      ≡ printed number book area (block ++ rest)
  unfolding printed
  block_and_rest block rest whole =
      let full : length block ≡ 40 * (length block / 40) = omega arith in
      rw (
        records_append (length block / 40) block rest full,
        lines-append (records_of rest) number book area (records_of block),
        book_append (records_of rest) book area (records_of block),
        append_assoc,
      )

pub in_blocks :
    (number : ℕ) (book : Ledger) (area : List ℕ) (blocks : List (List ℕ)) → WholeBlocks blocks
    → printed_in_blocks number book area blocks ≡ printed number book area (joined blocks)
unfolding printed printed_in_blocks
in_blocks number book area [] whole = sym (nothing number book area)
in_blocks number book area (block ∷ []) whole = rw (append-nil block)
in_blocks number book area (block ∷ next ∷ rest) whole =
    rw (in_blocks (number + length (records_of block)) (book_after book area (records_of block)) (area_after book area (records_of block)) (next ∷ rest) whole.1)
    (block_and_rest number book area block (joined (next ∷ rest)) whole.0)

-- ---- a file that is called block after block

pub file_none : (number : ℕ) (book area : List ℕ) → Kept book → FileCalled [] number book area number book area
unfolding book_after area_after
file_none number book area kept = record {
  kept = kept;
  ledger = rw (no_records [] refl);
  area = rw (no_records [] refl);
  numbered = rw (no_records [] refl) (omega arith);
}

-- a block behind whole records
pub file_then :
    {file block : List ℕ} {number number' number'' : ℕ} {book area book' area' book'' area'' : List ℕ} → length file % 40 ≡ 0
    → FileCalled file number book area number' book' area' → FileCalled block number' book' area' number'' book'' area''
    → FileCalled (file ++ block) number book area number'' book'' area''
file_then {file} {block} {number} {book = book} {area} whole first second =
    let full : length file ≡ 40 * (length file / 40) = omega arith in
    let both = records_append (length file / 40) file block full in
    record {
      kept = second.kept;
      ledger = second.ledger ∙ rw (first.ledger, first.area, both) (sym (book_append (records_of block) _ _ (records_of file)));
      area = second.area ∙ rw (first.ledger, first.area, both) (sym (area_append (records_of block) _ _ (records_of file)));
      numbered = second.numbered ∙ rw (first.numbered, both, length-append (records_of file) (records_of block)) (omega arith);
    }

-- a block that was put was called
pub block_called :
    {block : List ℕ} {number number' : ℕ} {before after : Lent} → BlockPut block number before number' after
    → FileCalled block number before.book before.area number' after.book after.area
block_called put = record { kept = put.answered.kept; ledger = put.answered.ledger; area = put.answered.area; numbered = put.numbered }
