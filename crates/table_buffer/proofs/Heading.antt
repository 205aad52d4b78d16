-- The first line of a table of which the first bytes are known. Assumes nothing.
use Rattle.std.specs.Prelude.{if◌then◌else◌, None, Result, Ok, Err}
use Prim.Native.Nat.{ℕ, suc, ◌+◌, ◌-◌, ◌≤◌, ◌<◌}
use native.Mathlib.Omega.{arith}
use mathlib.Core.Bool.{Bool, true, false}
use mathlib.Core.List.{List, [], ◌∷◌, ◌++◌, append-nil}
use mathlib.Core.Path.{◌≡◌, refl, sym, ap, ◌∙◌}
use borrow.Author.Tests.{ltb-true, ltb-false}
use lib.Dec.{eqb, ltb}
use lib.ListN.{length, take, drop, length-drop, drop_of_length-le}
use lib.Seq.{take-append-le, drop-append-le, drop-drop, take_all}
use Rattle.text.specs.Parts.{line_feed, up_to, joined, same_text}
use Rattle.cells.specs.declared.kind.Kind.TheVariants.{NoHeader, LongLine}
use Rattle.cells.specs.Cells.{lines_of}
use Rattle.cells.specs.declared.kind.Kind.{Kind}
use Rattle.table.specs.Header.{no_place, wrong, header_of, columns_of}
use Rattle.table.specs.Lines.{in_line, refused_at}
use Rattle.table.specs.Lines.Imported.{refused_as}
use Rattle.table.specs.declared.Wrong.{Wrong}
use Rattle.table_buffer.specs.declared.Rest.{Rest}
use Rattle.table_buffer.specs.declared.Rest.TheVariants.{More, Ended}
use Rattle.table.specs.Import.{mark, unmarked, with_columns, import_lines, import_of}
use Rattle.table.specs.Blocks.{walk, outcome}
use Rattle.table.specs.Theorems.{WalkIsImport}
use Rattle.table.specs.declared.Columns.{Columns}
use Rattle.table.proofs.InBlocks.{walk-is_import, lines_tail}
use Rattle.table_buffer.specs.First.{Headed, FirstRead, NoLine}
use Rattle.table_buffer.specs.declared.first.First.{First}

lines_more : (l later : List ℕ) → up_to line_feed l < length l
    → lines_of (l ++ later) ≡ take (up_to line_feed l) l ∷ lines_of (drop (suc (up_to line_feed l)) l ++ later)
unfolding up_to lines_of joined
lines_more [] later h = absurd (omega arith)
lines_more (b ∷ l) later h = go (eqb b line_feed) (lines_more l later) h
  where
    go : (t : Bool) → (up_to line_feed l < length l → lines_of (l ++ later) ≡ take (up_to line_feed l) l ∷ lines_of (drop (suc (up_to line_feed l)) l ++ later))
        → (if t then 0 else suc (up_to line_feed l)) < suc (length l)
        → (if t then [] ∷ lines_of (l ++ later) else joined b (lines_of (l ++ later)))
        ≡ take (if t then 0 else suc (up_to line_feed l)) (b ∷ l) ∷ lines_of (drop (suc (if t then 0 else suc (up_to line_feed l))) (b ∷ l) ++ later)
    go true more h = refl
    go false more h = ap (joined b) (more (omega arith))

lines-first : (l : List ℕ) → 0 < length l → lines_of l ≡ take (up_to line_feed l) l ∷ lines_of (drop (suc (up_to line_feed l)) l)
unfolding lines_of
lines-first l p = go (ltb (up_to line_feed l) (length l)) refl
  where
    go : (t : Bool) → ltb (up_to line_feed l) (length l) ≡ t → lines_of l ≡ take (up_to line_feed l) l ∷ lines_of (drop (suc (up_to line_feed l)) l)
    go true e =
        ap lines_of (sym (append-nil l)) ∙ lines_more l [] (ltb-true _ _ e)
        ∙ ap (λ (r : List ℕ). take (up_to line_feed l) l ∷ lines_of r) (append-nil (drop (suc (up_to line_feed l)) l))
    go false e =
        let full : length l ≤ up_to line_feed l = ltb-false _ _ e in
        lines_tail l p full ∙ sym (rw (take_all (up_to line_feed l) l full, drop_of_length-le l {i = suc (up_to line_feed l)} (omega arith)))

unmarked-more : (block later : List ℕ) → 3 ≤ length block → unmarked (block ++ later) ≡ unmarked block ++ later
unfolding unmarked
unmarked-more block later h = rw (take-append-le 3 block later h, drop-append-le 3 block later h) (go (same_text (take 3 block) mark))
  where
    go : (t : Bool) → (if t then drop 3 block ++ later else block ++ later) ≡ (if t then drop 3 block else block) ++ later
    go true = refl
    go false = refl

module _ (file header rest : List ℕ) (e : lines_of (unmarked file) ≡ header ∷ lines_of rest) where
  import_header : (places : List ℕ) → header_of header ≡ Ok places → import_of file ≡ outcome (walk places 2 None (lines_of rest))
  unfolding import_of import_lines with_columns WalkIsImport
  import_header places p = ap import_lines e ∙ rw p (sym (walk-is_import places 2 (lines_of rest)))

  import_refused : (why : Wrong) → header_of header ≡ Err why → import_of file ≡ refused_as (in_line 1 why)
  unfolding import_of import_lines with_columns
  import_refused why p = ap import_lines e ∙ rw p

import_nothing : (file : List ℕ) → unmarked file ≡ [] → import_of file ≡ refused_at NoHeader 1 0 no_place
unfolding import_of import_lines lines_of
import_nothing file e = rw e

-- the columns of that line
module _ (answer : Result Columns Wrong) (line : List ℕ) (e : columns_of answer ≡ header_of line) where
  columns_wrong : (why : Wrong) → answer ≡ Err why → header_of line ≡ Err why
  columns_wrong why g = sym e ∙ ap columns_of g

  columns_good : (columns : Columns) → answer ≡ Ok columns → header_of line ≡ Ok (take columns.count columns.places)
  columns_good columns g = sym e ∙ ap columns_of g

-- ---- where it starts and ends

-- no more than a mark was passed over
pub mark-short : (block : List ℕ) (start : ℕ) → start ≤ length block → drop start block ≡ unmarked block → start ≤ 3
unfolding unmarked
mark-short block start s u = go (same_text (take 3 block) mark) (ap length u)
  where
    go : (t : Bool) → length (drop start block) ≡ length (if t then drop 3 block else block) → start ≤ 3
    go true e = omega (arith, length-drop start block, length-drop 3 block)
    go false e = omega (arith, length-drop start block)

module _ (block : List ℕ) (start end : ℕ) (s : start ≤ length block) (u : drop start block ≡ unmarked block)
    (e : end ≡ start + up_to line_feed (drop start block)) where
  header_is : take (up_to line_feed (unmarked block)) (unmarked block) ≡ take (end - start) (drop start block)
  header_is = let n : up_to line_feed (drop start block) ≡ end - start = omega arith in rw (← u, n)

  rest-is : drop (suc (up_to line_feed (unmarked block))) (unmarked block) ≡ drop (end + 1) block
  rest-is =
      let n : start + suc (up_to line_feed (drop start block)) ≡ end + 1 = omega arith in
      rw (← u) (drop-drop (suc (up_to line_feed (drop start block))) start block ∙ ap (λ (m : ℕ). drop m block) n)

  left : length (unmarked block) ≡ length block - start
  left = ap length (sym u) ∙ length-drop start block

  -- of all bytes
  lines_of_lem : start < length block → lines_of (unmarked block) ≡ take (end - start) (drop start block) ∷ lines_of (drop (end + 1) block)
  lines_of_lem h = lines-first (unmarked block) (omega (arith, left)) ∙ rw (header_is, rest-is)

  -- with more behind them
  lines_then : end < length block → 3 ≤ length block → (later : List ℕ)
      → lines_of (unmarked (block ++ later)) ≡ take (end - start) (drop start block) ∷ lines_of (drop (end + 1) block ++ later)
  lines_then h k later =
      ap lines_of (unmarked-more block later k)
      ∙ lines_more (unmarked block) later (omega (arith, left, ap (up_to line_feed) (sym u)))
      ∙ rw (header_is, rest-is)

-- ---- what the code answers

module _ (block : List ℕ) (rest : Rest) (start end : ℕ) (first : First) (s : start ≤ end) (l : end ≤ length block) (h : Headed block start end first)
    (e : (later : List ℕ) → (rest ≡ Ended → later ≡ [])
    → lines_of (unmarked (block ++ later)) ≡ take (end - start) (drop start block) ∷ lines_of (drop (end + 1) block ++ later)) where
  first_read : FirstRead block rest first
  first_read = record {
    starts = omega (arith, h.at_start, h.at_end);
    ends = omega (arith, h.at_end);
    behind = h.behind;
    is_wrong = λ why g n later o. import_refused (block ++ later) _ _ (e later o) _ (columns_wrong first.columns _ h.columns why g);
    named = λ columns g later o.
        import_header (block ++ later) _ _ (e later o) _ (columns_good first.columns _ h.columns columns g)
        ∙ ap (λ (r : List ℕ). outcome (walk (take columns.count columns.places) 2 None (lines_of (r ++ later)))) (sym h.rest);
  }

module _ (block : List ℕ) (start end : ℕ) (first : First) (s : start ≤ length block) (u : drop start block ≡ unmarked block)
    (e : end ≡ start + up_to line_feed (drop start block)) (l : end ≤ length block) (h : Headed block start end first) where
  pub first-of_all : start < length block → FirstRead block Ended first
  first-of_all some =
      first_read block Ended start end first (omega arith) l h
      (λ later o. rw (o refl, append-nil block, append-nil (drop (end + 1) block)) (lines_of_lem block start end s u e some))

  pub first-of_more : end < length block → 3 ≤ length block → FirstRead block More first
  first-of_more inside long = first_read block More start end first (omega arith) l h (λ later o. lines_then block start end s u e inside long later)

-- there is no line, or none that ends
module _ (block : List ℕ) (rest : Rest) (kind : Kind) (at : ℕ) (first : First) (n : NoLine kind at first) (inside : at ≤ length block) where
  none_read : ((later : List ℕ) → (rest ≡ Ended → later ≡ []) → (kind ≡ LongLine → ⊥) → import_of (block ++ later) ≡ refused_at kind 1 0 no_place)
      → FirstRead block rest first
  none_read why = record {
    starts = omega (arith, n.at_start, n.at_end);
    ends = omega (arith, n.at_end);
    behind = omega (arith, n.behind);
    is_wrong = λ told g k later o.
        let same : told ≡ wrong kind 0 no_place = cc (n.because) in
        let so : told.kind ≡ kind = ap (λ (w : Wrong). w.kind) same in
        why later o (λ e. k (so ∙ e)) ∙ ap (λ (w : Wrong). refused_as (in_line 1 w)) (sym same);
    named = λ columns g. cc (n.because);
  }

  pub too_long : kind ≡ LongLine → FirstRead block rest first
  too_long e = none_read (λ later o k. absurd (k e))

  -- a file that did not end has more than a mark
  pub nothing_there : kind ≡ NoHeader → drop at block ≡ unmarked block → at ≡ length block → (rest ≡ More → 3 < length block) → FirstRead block rest first
  nothing_there e u all more = go rest refl
    where
      go : (t : Rest) → rest ≡ t → FirstRead block rest first
      go Ended f =
          none_read (λ later o k.
          rw (o f, append-nil block, e) (import_nothing block (sym u ∙ drop_of_length-le block {i = at} (omega arith))))
      go More f = absurd (omega (arith, more f, mark-short block at inside u))
