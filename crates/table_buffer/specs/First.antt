-- The first line of a table of which some bytes were read.
use Rattle.std.specs.Prelude.{ℕ, ◌+◌, ◌-◌, ◌≤◌, None, Ok, Err, List, [], ◌++◌, ◌≡◌, length, take, drop}
use Rattle.cells.specs.declared.kind.Kind.TheVariants.{LongLine}
use Rattle.cells.specs.Cells.{lines_of}
use Rattle.cells.specs.declared.kind.Kind.{Kind}
use Rattle.table.specs.Header.{no_place, refused, header_of, columns_of}
use Rattle.table.specs.Lines.{in_line}
use Rattle.table.specs.Lines.Imported.{refused_as}
use Rattle.table.specs.declared.Columns.{Columns}
use Rattle.table.specs.declared.Wrong.{Wrong}
use Rattle.table_buffer.specs.declared.Rest.{Rest}
use Rattle.table_buffer.specs.declared.Rest.TheVariants.{Ended}
use Rattle.table.specs.Import.{import_of}
use Rattle.table.specs.Blocks.{walk, outcome}
use Rattle.table_buffer.specs.declared.first.First.{First}

-- the columns of a line that stands at a place of some bytes, and the bytes behind it
pub record Headed (block : List ℕ) (start end : ℕ) (first : First) : Type 0 where
  pub at_start : first.start ≡ start
  pub at_end : first.end ≡ end
  pub behind : first.from ≤ length block
  pub rest : drop first.from block ≡ drop (end + 1) block
  pub columns : columns_of first.columns ≡ header_of (take (end - start) (drop start block))

-- the first line of these bytes, whatever comes behind them, and nothing does where the file ended: it is refused, unless it is too long to be read; or
-- its columns are those of the table
pub record FirstRead (block : List ℕ) (rest : Rest) (first : First) : Type 0 where
  pub starts : first.start ≤ first.end
  pub ends : first.end ≤ length block
  pub behind : first.from ≤ length block
  pub is_wrong : (wrong : Wrong) → first.columns ≡ Err wrong → (wrong.kind ≡ LongLine → ⊥) → (later : List ℕ) → (rest ≡ Ended → later ≡ [])
      → import_of (block ++ later) ≡ refused_as (in_line 1 wrong)
  pub named : (columns : Columns) → first.columns ≡ Ok columns → (later : List ℕ) → (rest ≡ Ended → later ≡ [])
      → import_of (block ++ later) ≡ outcome (walk (take columns.count columns.places) 2 None (lines_of (drop first.from block ++ later)))

-- there is none, for a reason
pub record NoLine (kind : Kind) (at : ℕ) (first : First) : Type 0 where
  pub at_start : first.start ≡ at
  pub at_end : first.end ≡ at
  pub behind : first.from ≡ at
  pub because : first.columns ≡ refused kind 0 no_place
