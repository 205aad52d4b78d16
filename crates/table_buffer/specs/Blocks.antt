-- What the lines of a buffer come to, and what they have to do with those of the whole file.
use Rattle.std.specs.Prelude.{ℕ, ◌*◌, ◌^◌, ◌≤◌, ◌<◌, Option, Result, Ok, Err, List, [], ◌∷◌, ◌++◌, ◌≡◌, length, take, drop}
use Rattle.rulebook.specs.declared.Order.{Order}
use Rattle.text.specs.Parts.{line_feed}
use Rattle.cells.specs.declared.kind.Kind.TheVariants.{LongLine}
use Rattle.cells.specs.Cells.{lines_of, whole_lines}
use Rattle.table.specs.Header.{no_place, Known, wrong}
use Rattle.table.specs.Lines.{Imported, in_line, filled}
use Rattle.table.specs.Lines.Imported.{refused_as, orders}
use Rattle.table.specs.Blocks.{Walked, having, walk, outcome, met_in}
use Rattle.table.specs.Blocks.Walked.{stopped, reached}
use Rattle.table_buffer.specs.Buffers.{INPUT, BLOCK, OUT}
use Rattle.table_buffer.specs.declared.Reading.{Reading}
use Rattle.table_buffer.specs.declared.Next.{Next}
use Rattle.table_buffer.specs.declared.Rest.TheVariants.{More, Ended}
use Rattle.table.specs.declared.Refused.{Refused}

-- what is lent
pub record Given (places input out : List ℕ) (reading : Reading) : Type 0 where
  pub known : Known places
  pub input_long : length input ≡ INPUT
  pub out_long : length out ≡ OUT
  pub starts : reading.from ≤ reading.size
  pub ends : reading.size ≤ BLOCK
  pub numbered : reading.line < 2 ^ 63

-- the bytes of the buffer in which lines are; and with a line feed behind the last
abbrev pub inside : Reading → List ℕ → List ℕ
inside reading input = drop reading.from (take reading.size input)

abbrev pub ending : Reading → List ℕ → List ℕ
ending reading input = inside reading input ++ (line_feed ∷ [])

-- why a line is refused that fills the buffer
abbrev pub long_line_at : ℕ → Refused
long_line_at line = in_line line (wrong LongLine 0 no_place)

-- lines say orders
pub record Ordered (imported : Imported) : Type 0 where
  pub met : List Order
  pub is : imported ≡ orders met

-- whatever comes behind some bytes, their lines are walked on from other bytes, at the line that was reached
pub record Continues (places : List ℕ) (line : ℕ) (empty : Option ℕ) (block left : List ℕ) (line' : ℕ) (empty' : Option ℕ) : Type 0 where
  pub met : List Order
  pub is : (later : List ℕ) → walk places line empty (lines_of (block ++ later)) ≡ having met (walk places line' empty' (lines_of (left ++ later)))

-- what the lines in the buffer came to; where more may follow, the bytes that are left stand at the start of the buffer
unfoldable pub Goes : List ℕ → Reading → (input input' : List ℕ) → Result Next Refused → Type 0
Goes places reading input input' (Err why) =
    (why.wrong.kind ≡ LongLine → ⊥) → outcome (walk places reading.line reading.empty (lines_of (inside reading input))) ≡ refused_as why
Goes places reading input input' (Ok (Next.Ended number)) = Ordered (outcome (walk places reading.line reading.empty (lines_of (inside reading input))))
Goes places reading input input' (Ok (Next.More held line' empty')) =
    (held ≤ BLOCK) × (reading.rest ≡ More)
    × Continues places reading.line reading.empty (inside reading input) (take held input') line' empty'

-- the bytes of the records of the orders met, none where a line was refused
unfoldable pub record_bytes : Walked → ℕ
record_bytes (stopped why met) = 0
record_bytes (reached line empty met) = 40 * length met

-- the records of the lines that end in a block stand at the start of the output buffer
pub record Recorded (places : List ℕ) (reading : Reading) (block : List ℕ) (wrote : ℕ) (out out' : List ℕ) : Type 0 where
  pub size : wrote ≡ record_bytes (walk places reading.line reading.empty (whole_lines block))
  pub fits : wrote ≤ OUT
  pub contents : out' ≡ filled (met_in (walk places reading.line reading.empty (whole_lines block))) out

-- these are the lines in the buffer, with a line feed behind the last where the file ended; where more may follow, without
pub record Written (places : List ℕ) (reading : Reading) (input : List ℕ) (wrote : ℕ) (out out' : List ℕ) : Type 0 where
  pub fits : wrote ≤ OUT
  pub last : reading.rest ≡ Ended → Recorded places reading (ending reading input) wrote out out'
  pub full : reading.rest ≡ More → Recorded places reading (inside reading input) wrote out out'
