-- The lines of bytes that are read in blocks. Assumes nothing.
use Rattle.std.specs.Prelude.{if◌then◌else◌, Option, Result, Ok, Err}
use Prim.Native.Nat.{ℕ, suc, ◌+◌, ◌-◌, ◌*◌, ◌≤◌, ◌<◌}
use native.Mathlib.Omega.{arith}
use native.Mathlib.Numerals.{add-one}
use mathlib.Core.Bool.{Bool, true, false}
use mathlib.Core.List.{List, [], ◌∷◌, ◌++◌, append-nil}
use mathlib.Core.Path.{◌≡◌, refl, sym, ap, ◌∙◌}
use lib.Dec.{eqb, ltb}
use lib.ListN.{length, take, drop, set, length-append, length-drop, length-set}
use lib.Seq.{drop-append-le, drop-drop, take-add, take-suc-set, drop_at, length-take-le}
use Rattle.text.specs.Parts.{line_feed, up_to, joined}
use Rattle.cells.specs.Cells.{onto, lines_of, whole_lines, tail_of, is_empty, front}
use Rattle.table.specs.Lines.Imported.{refused_as, orders}
use Rattle.table.specs.Blocks.{Walked, having, walk, onward, outcome, met_in, used_of, checked_as}
use Rattle.table.specs.Blocks.Walked.{stopped, reached}
use Rattle.table.specs.declared.Checked.{Checked}
use Rattle.table.specs.Theorems.{InBlocks, WalkInBlocks, RoomEnough}
use Rattle.table.proofs.InBlocks.{in_blocks, walk-in_blocks, room_enough}
use Rattle.table.specs.Lines.{filled}
use Rattle.table_buffer.specs.Blocks.{Given, inside, ending, Ordered, Continues, long_line_at, Goes, record_bytes, Recorded}
use Rattle.table_buffer.specs.declared.Reading.{Reading}
use Rattle.table_buffer.specs.declared.Next.{Next}
use Rattle.table_buffer.specs.declared.Rest.TheVariants.{More}
use Rattle.table.specs.declared.Refused.{Refused}

-- ---- what a walk came to, by the code's answer

pub record Stopped (w : Walked) (why : Refused) : Type 0 where
  pub is : w ≡ stopped why (met_in w)
  pub size : 0 ≡ record_bytes w

pub record Passed (used : ℕ) (w : Walked) (made : Checked) : Type 0 where
  pub all : made.used ≡ used
  pub is : w ≡ reached made.line made.empty (met_in w)
  pub size : made.wrote ≡ record_bytes w
  pub few : made.wrote ≡ 40 * length (met_in w)

module _ (used : ℕ) where
  pub refused-is : (w : Walked) (why : Refused) → Err why ≡ checked_as used w → Stopped w why
  unfolding checked_as met_in record_bytes
  refused-is (stopped because met) why e = record { is = cc; size = refl }
  refused-is (reached l p met) why e = cc

  pub passed_is : (w : Walked) (made : Checked) → Ok made ≡ checked_as used w → Passed used w made
  unfolding checked_as met_in record_bytes
  passed_is (stopped why met) made e = cc
  passed_is (reached l p met) made e =
      let same : made ≡ record { used = used; line = l; empty = p; wrote = 40 * length met } = cc in
      rw same (record { all = refl; is = refl; size = refl; few = refl })

-- the records of a block's lines are fewer than the buffer
pub wrote_fits : (places : List ℕ) (line : ℕ) (empty : Option ℕ) (block : List ℕ) (wrote : ℕ) → wrote ≡ 40 * length (met_in (walk places line empty (whole_lines block)))
    → wrote ≤ 20 * length block
unfolding RoomEnough
wrote_fits places line empty block wrote e = omega (arith, e, room_enough places line empty block)

-- ---- a block of lines

module _ (places : List ℕ) (line : ℕ) (empty : Option ℕ) where
  walk_block : (block next : List ℕ)
      → walk places line empty (lines_of (block ++ next))
      ≡ onward (walk places line empty (whole_lines block)) (λ reached passed. walk places reached passed (lines_of (tail_of block ++ next)))
  unfolding InBlocks WalkInBlocks
  walk_block block next =
      ap (walk places line empty) (in_blocks block next) ∙ walk-in_blocks places line empty (whole_lines block) (lines_of (tail_of block ++ next))

  pub block_stops : (block : List ℕ) (why : Refused)
      → walk places line empty (whole_lines block) ≡ stopped why (met_in (walk places line empty (whole_lines block)))
      → outcome (walk places line empty (lines_of block)) ≡ refused_as why
  unfolding onward outcome
  block_stops block why s =
      ap (λ (l : List ℕ). outcome (walk places line empty (lines_of l))) (sym (append-nil block)) ∙ ap outcome (walk_block block [])
      ∙ ap (λ (w : Walked). outcome (onward w (λ reached passed. walk places reached passed (lines_of (tail_of block ++ []))))) s

  pub block_reaches : (block left : List ℕ) (line' : ℕ) (empty' : Option ℕ)
      → walk places line empty (whole_lines block) ≡ reached line' empty' (met_in (walk places line empty (whole_lines block))) → left ≡ tail_of block
      → Continues places line empty block left line' empty'
  unfolding onward
  block_reaches block left line' empty' r e = record {
    met = met_in (walk places line empty (whole_lines block));
    is = λ later.
        walk_block block later
        ∙ ap (λ (w : Walked). onward w (λ reached passed. walk places reached passed (lines_of (tail_of block ++ later)))) r
        ∙ ap (λ (l : List ℕ). having (met_in (walk places line empty (whole_lines block))) (walk places line' empty' (lines_of (l ++ later)))) (sym e);
  }

-- the tail is what the lines do not use
tail_short : (block : List ℕ) → length (tail_of block) ≤ length block
unfolding tail_of
tail_short [] = omega arith
tail_short (b ∷ l) = go (ltb (up_to line_feed (b ∷ l)) (length (b ∷ l))) (tail_short l)
  where
    go : (t : Bool) → length (tail_of l) ≤ length l → length (if t then tail_of l else b ∷ l) ≤ length (b ∷ l)
    go true h = omega arith
    go false h = omega arith

pub tail-is : (block : List ℕ) → tail_of block ≡ drop (used_of block) block
unfolding used_of tail_of
tail-is [] = refl
tail-is (b ∷ l) = go (ltb (up_to line_feed (b ∷ l)) (length (b ∷ l))) (tail-is l)
  where
    go : (t : Bool) → tail_of l ≡ drop (length l - length (tail_of l)) l
        → (if t then tail_of l else b ∷ l) ≡ drop (length (b ∷ l) - length (if t then tail_of l else b ∷ l)) (b ∷ l)
    go true h =
        let n : suc (length l) - length (tail_of l) ≡ suc (length l - length (tail_of l)) = omega (arith, tail_short l) in
        h ∙ sym (rw n)
    go false h = let n : suc (length l) - suc (length l) ≡ 0 = omega arith in sym (rw n)

-- ---- the last bytes, with a line feed behind them

-- lines that are all empty, one at most
data Spare : List (List ℕ) → Type 0 where
  none : Spare []
  one : Spare ([] ∷ [])

record Ends (block : List ℕ) : Type 0 where
  extra : List (List ℕ)
  spare : Spare extra
  lines : whole_lines (block ++ (line_feed ∷ [])) ≡ lines_of block ++ extra

onto-joined : (b : ℕ) (lines extra : List (List ℕ)) → (lines ≡ [] → ⊥) → onto b (lines ++ extra) ≡ joined b lines ++ extra
unfolding onto joined
onto-joined b [] extra n = absurd (n refl)
onto-joined b (line ∷ lines) extra n = refl

some-lines : (c : ℕ) (block : List ℕ) → lines_of (c ∷ block) ≡ [] → ⊥
unfolding lines_of joined
some-lines c block e = go (eqb c line_feed) (lines_of block) e
  where
    go : (t : Bool) (lines : List (List ℕ)) → (if t then [] ∷ lines else joined c lines) ≡ [] → ⊥
    go true lines e = absurd (let z : ◌≡◌ {A = ℕ} 0 1 = cc in omega arith)
    go false [] e = absurd (let z : ◌≡◌ {A = ℕ} 0 1 = cc in omega arith)
    go false (line ∷ lines) e = absurd (let z : ◌≡◌ {A = ℕ} 0 1 = cc in omega arith)

ends : (block : List ℕ) → Ends block
unfolding whole_lines lines_of onto joined
ends [] = record { extra = [] ∷ []; spare = one; lines = refl }
ends (b ∷ []) = go (eqb b line_feed) refl
  where
    go : (t : Bool) → eqb b line_feed ≡ t → Ends (b ∷ [])
    go true e = record { extra = [] ∷ []; spare = one; lines = simp e }
    go false e = record { extra = []; spare = none; lines = simp e }
ends (b ∷ c ∷ block) = go (eqb b line_feed) refl (ends (c ∷ block))
  where
    go : (t : Bool) → eqb b line_feed ≡ t → Ends (c ∷ block) → Ends (b ∷ c ∷ block)
    go true e r = record { extra = r.extra; spare = r.spare; lines = simp e (ap (λ (l : List (List ℕ)). [] ∷ l) r.lines) }
    go false e r = record {
      extra = r.extra;
      spare = r.spare;
      lines = simp e (ap (onto b) r.lines ∙ onto-joined b (lines_of (c ∷ block)) r.extra (some-lines c block));
    }

module _ (places : List ℕ) (line : ℕ) (empty : Option ℕ) where
  -- an empty line more changes nothing
  spare-so : {extra : List (List ℕ)} → Spare extra → (w : Walked)
      → outcome (onward w (λ reached passed. walk places reached passed extra)) ≡ outcome w
  unfolding onward outcome walk having is_empty front
  spare-so none (stopped why met) = refl
  spare-so none (reached number passed met) = ap orders (append-nil met)
  spare-so one (stopped why met) = refl
  spare-so one (reached number passed met) = ap orders (append-nil met)

  pub last_same : (block : List ℕ) → outcome (walk places line empty (whole_lines (block ++ (line_feed ∷ [])))) ≡ outcome (walk places line empty (lines_of block))
  unfolding WalkInBlocks
  last_same block =
      let e = ends block in
      ap (λ (l : List (List ℕ)). outcome (walk places line empty l)) e.lines
      ∙ ap outcome (walk-in_blocks places line empty (lines_of block) e.extra) ∙ spare-so e.spare (walk places line empty (lines_of block))

  pub last_stops : (block : List ℕ) (why : Refused)
      → walk places line empty (whole_lines (block ++ (line_feed ∷ [])))
      ≡ stopped why (met_in (walk places line empty (whole_lines (block ++ (line_feed ∷ [])))))
      → outcome (walk places line empty (lines_of block)) ≡ refused_as why
  unfolding outcome
  last_stops block why s = sym (last_same block) ∙ ap outcome s

  pub last_reaches : (block : List ℕ) (line' : ℕ) (empty' : Option ℕ)
      → walk places line empty (whole_lines (block ++ (line_feed ∷ [])))
      ≡ reached line' empty' (met_in (walk places line empty (whole_lines (block ++ (line_feed ∷ [])))))
      → Ordered (outcome (walk places line empty (lines_of block)))
  unfolding outcome
  last_reaches block line' empty' r = record { met = _; is = sym (last_same block) ∙ ap outcome r }

-- ---- bytes of a buffer

pub part_of : (from n : ℕ) (l : List ℕ) → from ≤ n → from ≤ length l → take (n - from) (drop from l) ≡ drop from (take n l)
part_of from n l h k =
    let m : n ≡ from + (n - from) = omega arith in
    sym (ap (λ (j : ℕ). drop from (take j l)) m ∙ ap (drop from) (take-add from (n - from) l)
    ∙ drop_at (take from l) (take (n - from) (drop from l)) from (length-take-le from l k))

-- a line feed behind the last
pub with_end : (from size : ℕ) (input : List ℕ) → from ≤ size → size < length input
    → take (size + 1 - from) (drop from (set input size line_feed)) ≡ drop from (take size input) ++ (line_feed ∷ [])
with_end from size input h k =
    let l : length (set input size line_feed) ≡ length input = length-set input size line_feed in
    part_of from (size + 1) (set input size line_feed) (omega arith) (omega (arith, l))
    ∙ ap (drop from) (rw (add-one size) (take-suc-set input size line_feed k))
    ∙ drop-append-le from (take size input) (line_feed ∷ []) (omega (arith, length-take-le size input (omega arith)))

-- what is left of it, behind the bytes used
pub left_over : (from used size : ℕ) (input : List ℕ) → from + used ≤ size → size ≤ length input
    → take (size - (from + used)) (drop (from + used) input) ≡ drop used (drop from (take size input))
left_over from used size input h k =
    part_of (from + used) size input h (omega arith)
    ∙ sym (drop-drop used from (take size input))

-- ---- the lines of a buffer, by the code's answer

-- what the code was told of some bytes, which are those of a block
record Told (places : List ℕ) (reading : Reading) (block : List ℕ) (checked : Result Checked Refused) (out out' : List ℕ) : Type 0 where
  answer : checked ≡ checked_as (used_of block) (walk places reading.line reading.empty (whole_lines block))
  contents : out' ≡ filled (met_in (walk places reading.line reading.empty (whole_lines block))) out

told_of : {places : List ℕ} {reading : Reading} {bytes block : List ℕ} {checked : Result Checked Refused} {out out' : List ℕ} → bytes ≡ block
    → checked ≡ checked_as (used_of bytes) (walk places reading.line reading.empty (whole_lines bytes))
    → out' ≡ filled (met_in (walk places reading.line reading.empty (whole_lines bytes))) out → Told places reading block checked out out'
told_of e a f = record { answer = rw e at a; contents = rw e at f }

module _ {places : List ℕ} {reading : Reading} {block : List ℕ} {checked : Result Checked Refused} {out out' : List ℕ} (t : Told places reading block checked out out') where
  stopped_at : (why : Refused) → checked ≡ Err why → Stopped (walk places reading.line reading.empty (whole_lines block)) why
  stopped_at why e = refused-is (used_of block) _ why (sym e ∙ t.answer)

  passed_at : (made : Checked) → checked ≡ Ok made → Passed (used_of block) (walk places reading.line reading.empty (whole_lines block)) made
  passed_at made e = passed_is (used_of block) _ made (sym e ∙ t.answer)

  recorded_none : (why : Refused) → checked ≡ Err why → Recorded places reading block 0 out out'
  recorded_none why e =
      record { size = (stopped_at why e).size; fits = omega arith; contents = t.contents }

  recorded : (made : Checked) → checked ≡ Ok made → length block ≤ 16384 → Recorded places reading block made.wrote out out'
  recorded made e few =
      let p = passed_at made e in
      let most = wrote_fits places reading.line reading.empty block made.wrote p.few in
      record { size = p.size; fits = omega arith; contents = t.contents }

-- a full buffer
module _ (places : List ℕ) (reading : Reading) (input out out' : List ℕ) (checked : Result Checked Refused) (given : Given places input out reading)
    (a : checked ≡ checked_as (used_of (take (reading.size - reading.from) (drop reading.from input)))
    (walk places reading.line reading.empty (whole_lines (take (reading.size - reading.from) (drop reading.from input)))))
    (f : out' ≡ filled (met_in (walk places reading.line reading.empty
    (whole_lines (take (reading.size - reading.from) (drop reading.from input))))) out) where
  full-told : Told places reading (inside reading input) checked out out'
  full-told = told_of (part_of reading.from reading.size input given.starts (omega (arith, given.starts, given.ends, given.input_long))) a f

  inside-long : length (inside reading input) ≡ reading.size - reading.from
  inside-long =
      length-drop reading.from (take reading.size input)
      ∙ ap (λ (n : ℕ). n - reading.from) (length-take-le reading.size input (omega (arith, given.ends, given.input_long)))

  pub full-refused : (why : Refused) (input' : List ℕ) → checked ≡ Err why → Goes places reading input input' (Err why) × Recorded places reading (inside reading input) 0 out out'
  unfolding Goes
  full-refused why input' e = (
    λ n. block_stops places reading.line reading.empty (inside reading input) why (stopped_at full-told why e).is,
    recorded_none full-told why e,
  )

  module _ (made : Checked) (e : checked ≡ Ok made) where
    full-recorded : Recorded places reading (inside reading input) made.wrote out out'
    full-recorded = recorded full-told made e (omega (arith, inside-long, given.ends))

    pub full-long : (input' : List ℕ)
        → Goes places reading input input' (Err (long_line_at made.line)) × Recorded places reading (inside reading input) made.wrote out out'
    unfolding Goes
    full-long input' = (λ n. absurd (n refl), full-recorded)

    pub used-most : reading.from + made.used ≤ reading.size
    unfolding used_of
    used-most = omega (arith, (passed_at full-told made e).all, inside-long, given.starts)

    pub full-more : (input' : List ℕ) → reading.rest ≡ More
        → take (reading.size - (reading.from + made.used)) input'
        ≡ take (reading.size - (reading.from + made.used)) (drop (reading.from + made.used) input)
        → Goes places reading input input' (Ok (Next.More (reading.size - (reading.from + made.used)) made.line made.empty))
        × Recorded places reading (inside reading input) made.wrote out out'
    unfolding Goes
    full-more input' on moved =
        let p = passed_at full-told made e in
        let left = moved
        ∙ left_over reading.from made.used reading.size input used-most (omega (arith, given.ends, given.input_long))
        ∙ ap (λ (n : ℕ). drop n (inside reading input)) p.all
        ∙ sym (tail-is (inside reading input))
        in (
          (
            omega (arith, given.ends),
            on,
            block_reaches places reading.line reading.empty (inside reading input) _ made.line made.empty p.is left,
          ),
          full-recorded,
        )

-- the last bytes, with a line feed behind them
module _ (places : List ℕ) (reading : Reading) (input out out' : List ℕ) (checked : Result Checked Refused) (given : Given places input out reading)
    (a : checked ≡ checked_as (used_of (take (reading.size + 1 - reading.from) (drop reading.from (set input reading.size line_feed))))
    (walk places reading.line reading.empty
    (whole_lines (take (reading.size + 1 - reading.from) (drop reading.from (set input reading.size line_feed))))))
    (f : out' ≡ filled (met_in (walk places reading.line reading.empty
    (whole_lines (take (reading.size + 1 - reading.from) (drop reading.from (set input reading.size line_feed)))))) out) where
  last_told : Told places reading (ending reading input) checked out out'
  last_told = told_of (with_end reading.from reading.size input given.starts (omega (arith, given.ends, given.input_long))) a f

  ending-long : length (ending reading input) ≤ 16384
  ending-long =
      omega (
        arith,
        length-append (inside reading input) (line_feed ∷ []),
        length-drop reading.from (take reading.size input),
        length-take-le reading.size input (omega (arith, given.ends, given.input_long)),
        given.ends,
      )

  pub last_refused : (why : Refused) (input' : List ℕ) → checked ≡ Err why → Goes places reading input input' (Err why) × Recorded places reading (ending reading input) 0 out out'
  unfolding Goes
  last_refused why input' e = (
    λ n. last_stops places reading.line reading.empty (inside reading input) why (stopped_at last_told why e).is,
    recorded_none last_told why e,
  )

  pub last_ended : (made : Checked) (input' : List ℕ) → checked ≡ Ok made
      → Goes places reading input input' (Ok (Next.Ended made.line)) × Recorded places reading (ending reading input) made.wrote out out'
  unfolding Goes
  last_ended made input' e = (
    last_reaches places reading.line reading.empty (inside reading input) made.line made.empty (passed_at last_told made e).is,
    recorded last_told made e ending-long,
  )
