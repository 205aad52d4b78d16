-- The theorems of specs/Theorems on a table in blocks. Assumes nothing.
use Rattle.std.specs.Prelude.{if◌then◌else◌, Option, Some, None, Result, Ok, Err}
use Prim.Native.Nat.{ℕ, suc, ◌+◌, ◌*◌, ◌≤◌, ◌<◌}
use native.Mathlib.Omega.{arith}
use mathlib.Core.Bool.{Bool, true, false}
use mathlib.Core.List.{List, [], ◌∷◌, ◌++◌}
use mathlib.Core.Path.{◌≡◌, refl, sym, ap, ◌∙◌}
use borrow.Author.Tests.{ltb-true, ltb-false, lt-ltb, le-ltb}
use lib.Dec.{eqb, ltb}
use lib.ListN.{length, length-append}
use Rattle.plain.specs.Lists.{total}
use Rattle.rulebook.specs.declared.Order.{Order}
use Rattle.text.specs.Parts.{line_feed, up_to, joined}
use Rattle.cells.specs.Cells.{is_empty, onto, lines_of, leading, full_lines, whole_lines, tail_of}
use Rattle.text.proofs.Cutting.{to_mark}
use Rattle.cells.proofs.Splits.{whole-last, whole-more}
use Rattle.table.specs.Lines.{Imported, more, with_row, rows_from, row_of, line_fields, ordered}
use Rattle.table.specs.Lines.Imported.{refused_as, orders}
use Rattle.table.specs.Import.{and_then}
use Rattle.table.specs.Blocks.{Walked, having, walk_row, empty_line_at, walk, onward, outcome, met_in, step_of}
use Rattle.table.specs.Blocks.Walked.{stopped, reached}
use Rattle.table.specs.Theorems.{InBlocks, LastLine, RowsInBlocks, WalkInBlocks, WalkIsImport, AllConverted, RoomEnough}
use Rattle.table.specs.declared.Refused.{Refused}
use Rattle.table.specs.declared.Step.{Step}
use Rattle.table.specs.declared.Wrong.{Wrong}
use Rattle.table.proofs.Theorems.{leading-full}
use Rattle.table.proofs.Walking.{having-none, having-both, Goes, goes}

-- ---- blocks

blocks_of : (l next : List ℕ) → lines_of (l ++ next) ≡ whole_lines l ++ lines_of (tail_of l ++ next)
unfolding lines_of whole_lines tail_of up_to
blocks_of [] next = refl
blocks_of (b ∷ l) next = go (eqb b line_feed) refl (ltb (up_to line_feed l) (length l)) refl (blocks_of l next)
  where
    go : (t : Bool) → eqb b line_feed ≡ t → (u : Bool) → ltb (up_to line_feed l) (length l) ≡ u → lines_of (l ++ next) ≡ whole_lines l ++ lines_of (tail_of l ++ next)
        → lines_of (b ∷ l ++ next) ≡ whole_lines (b ∷ l) ++ lines_of (tail_of (b ∷ l) ++ next)
    go true e u f more = simp (e, lt-ltb 0 (suc (length l)) (omega arith), more)
    go false e true f more =
        let less : up_to line_feed l < length l = ltb-true _ _ f in
        simp (e, lt-ltb (suc (up_to line_feed l)) (suc (length l)) (omega arith), more, whole-more l less) (unfold joined onto in refl)
    go false e false f more =
        let full : length l ≤ up_to line_feed l = ltb-false _ _ f in
        simp (e, le-ltb (suc (up_to line_feed l)) (suc (length l)) (omega arith), whole-last l full) (unfold onto in refl)

pub in_blocks : InBlocks
unfolding InBlocks
in_blocks = blocks_of

pub lines_tail : (l : List ℕ) → 0 < length l → length l ≤ up_to line_feed l → lines_of l ≡ l ∷ []
unfolding lines_of up_to joined
lines_tail [] p h = absurd (omega arith)
lines_tail (b ∷ l) p h = go (eqb b line_feed) l (lines_tail l) h
  where
    go : (t : Bool) (l : List ℕ) → (0 < length l → length l ≤ up_to line_feed l → lines_of l ≡ l ∷ []) → suc (length l) ≤ (if t then 0 else suc (up_to line_feed l))
        → (if t then [] ∷ lines_of l else joined b (lines_of l)) ≡ (b ∷ l) ∷ []
    go true l more h = absurd (omega arith)
    go false [] more h = refl
    go false (c ∷ l) more h = ap (joined b) (more (omega arith) (omega arith))

whole-tail : (l : List ℕ) → length l ≤ up_to line_feed l → whole_lines (l ++ (line_feed ∷ [])) ≡ l ∷ []
unfolding whole_lines onto
whole-tail =
    to_mark line_feed (λ l n. length l ≤ n → whole_lines (l ++ (line_feed ∷ [])) ≡ l ∷ []) (λ h. refl) (λ b l e h. absurd (omega arith))
    (λ b l e more h. simp (e, more (omega arith)))

pub last_line : LastLine
unfolding LastLine
last_line tail p h = lines_tail tail p h ∙ sym (whole-tail tail h)

then_none : (later : Imported) → and_then (orders []) later ≡ later
unfolding and_then
then_none (refused_as why) = refl
then_none (orders all) = refl

with_then : (row : Result Order Wrong) (line : ℕ) (rows later : Imported) → with_row row line (and_then rows later) ≡ and_then (with_row row line rows) later
unfolding with_row more and_then
with_then (Err wrong) line rows later = refl
with_then (Ok order) line (refused_as why) later = refl
with_then (Ok order) line (orders all) (refused_as why) = refl
with_then (Ok order) line (orders all) (orders others) = refl

pub rows-in_blocks : RowsInBlocks
unfolding RowsInBlocks rows_from
rows-in_blocks places line [] next = let n : line + 0 ≡ line = omega arith in rw n (sym (then_none (rows_from places line next)))
rows-in_blocks places line (text ∷ block) next =
    let n : line + 1 + length block ≡ line + suc (length block) = omega arith in
    ap (with_row (row_of places text) line) (rows-in_blocks places (line + 1) block next)
    ∙ with_then (row_of places text) line (rows_from places (line + 1) block) (rows_from places (line + 1 + length block) next)
    ∙ rw n

-- ---- a walk

having-on : (met : List Order) (w : Walked) (next : (line : ℕ) (empty : Option ℕ) → Walked) → onward (having met w) next ≡ having met (onward w next)
unfolding having onward
having-on met (stopped why others) next = refl
having-on met (reached line empty others) next = having-both met others (next line empty)

pub walk-in_blocks : WalkInBlocks
unfolding WalkInBlocks
walk-in_blocks places line empty [] next = unfold walk onward in sym (having-none (walk places line empty next))
walk-in_blocks places line empty (text ∷ block) next =
    go (step_of places line empty text) (goes places line empty text) (λ empty'. walk-in_blocks places (line + 1) empty' block next)
  where
    on : (line : ℕ) (empty : Option ℕ) → Walked
    on number passed = walk places number passed next

    go : (step : Result Step Refused) → Goes places line empty text step
        → ((empty' : Option ℕ) → walk places (line + 1) empty' (block ++ next) ≡ onward (walk places (line + 1) empty' block) on)
        → walk places line empty (text ∷ block ++ next) ≡ onward (walk places line empty (text ∷ block)) on
    go (Err why) g more = g.0 (block ++ next) ∙ sym (rw (g.0 block) (unfold onward in refl))
    go (Ok step) g more = rw (g.walked (block ++ next), g.walked block, more step.empty) (sym (having-on g.new _ on))

-- what is left of lines behind empty ones: nothing, or the first of the empty lines is refused
abbrev behind : ℕ → List (List ℕ) → Imported
behind empty [] = orders []
behind empty (line ∷ lines) = refused_as (empty_line_at empty)

behind_leading : (empty : ℕ) (line : List ℕ) (lines : List (List ℕ)) → is_empty line ≡ true → behind empty (leading line lines) ≡ behind empty lines
unfolding leading
behind_leading empty line [] e = simp e
behind_leading empty line (next ∷ lines) e = refl

outcome-row : (row : Result Order Wrong) (line : ℕ) (w : Walked) → outcome (walk_row row line w) ≡ with_row row line (outcome w)
unfolding walk_row with_row outcome having more
outcome-row (Ok order) line (stopped why met) = refl
outcome-row (Ok order) line (reached at empty met) = refl
outcome-row (Err wrong) line w = refl

-- empty lines stand before these, the first of them with this number
after_empty : (places : List ℕ) (line empty : ℕ) (lines : List (List ℕ)) → outcome (walk places line (Some empty) lines) ≡ behind empty (full_lines lines)
unfolding walk outcome full_lines
after_empty places line empty [] = refl
after_empty places line empty (text ∷ lines) = go (is_empty text) refl (after_empty places (line + 1) empty lines)
  where
    go : (t : Bool) → is_empty text ≡ t → outcome (walk places (line + 1) (Some empty) lines) ≡ behind empty (full_lines lines)
        → outcome (walk places line (Some empty) (text ∷ lines)) ≡ behind empty (leading text (full_lines lines))
    go true e more = simp e more ∙ sym (behind_leading empty text (full_lines lines) e)
    go false e more = rw (leading-full text (full_lines lines) e) (simp e)

empty_row_lem : (places : List ℕ) (line : ℕ) (text : List ℕ) (lines : List (List ℕ)) → is_empty text ≡ true
    → behind line lines ≡ rows_from places line (leading text lines)
unfolding leading rows_from with_row row_of line_fields ordered
empty_row_lem places line text [] e = simp e
empty_row_lem places line text (next ∷ lines) e = sym (simp e)

walked_is : (places : List ℕ) (line : ℕ) (lines : List (List ℕ)) → outcome (walk places line None lines) ≡ rows_from places line (full_lines lines)
unfolding walk rows_from full_lines
walked_is places line [] = unfold outcome in refl
walked_is places line (text ∷ lines) = go (is_empty text) refl (walked_is places (line + 1) lines)
  where
    go : (t : Bool) → is_empty text ≡ t → outcome (walk places (line + 1) None lines) ≡ rows_from places (line + 1) (full_lines lines)
        → outcome (walk places line None (text ∷ lines)) ≡ rows_from places line (leading text (full_lines lines))
    go true e more =
        simp e (after_empty places (line + 1) line lines)
        ∙ empty_row_lem places line text (full_lines lines) e
    go false e more = rw (leading-full text (full_lines lines) e) (simp e (outcome-row (row_of places text) line _ ∙ ap (with_row (row_of places text) line) more))

pub walk-is_import : WalkIsImport
unfolding WalkIsImport
walk-is_import = walked_is

pub all-converted : AllConverted
unfolding AllConverted outcome met_in
all-converted places line lines all e = go (walk places line None lines) (walked_is places line lines ∙ e)
  where
    go : (w : Walked) → outcome w ≡ orders all → met_in w ≡ all
    go (stopped why met) f = cc
    go (reached at empty met) f = cc

-- ---- room

abbrev lines_long : List (List ℕ) → ℕ
lines_long lines = total (λ line. length line + 1) lines

whole_long : (block : List ℕ) → lines_long (whole_lines block) ≤ length block
unfolding whole_lines onto
whole_long [] = omega arith
whole_long (b ∷ l) = go (eqb b line_feed) (whole_lines l) (whole_long l)
  where
    go : (t : Bool) (lines : List (List ℕ)) → lines_long lines ≤ length l → lines_long (if t then [] ∷ lines else onto b lines) ≤ suc (length l)
    go true lines h = omega arith
    go false [] h = omega arith
    go false (line ∷ lines) h = omega arith

met_having : (met : List Order) (w : Walked) → met_in (having met w) ≡ met ++ met_in w
unfolding met_in having
met_having met (stopped why others) = refl
met_having met (reached line empty others) = refl

met_short : (places : List ℕ) (line : ℕ) (empty : Option ℕ) (lines : List (List ℕ)) → 2 * length (met_in (walk places line empty lines)) ≤ lines_long lines
met_short places line empty [] = unfold walk met_in in omega arith
met_short places line empty (text ∷ lines) = go (step_of places line empty text) (goes places line empty text) (λ empty'. met_short places
    (line + 1) empty' lines)
  where
    go : (step : Result Step Refused) → Goes places line empty text step
        → ((empty' : Option ℕ) → 2 * length (met_in (walk places (line + 1) empty' lines)) ≤ lines_long lines)
        → 2 * length (met_in (walk places line empty (text ∷ lines))) ≤ lines_long (text ∷ lines)
    go (Err why) g more = rw (g.0 lines) (unfold met_in in omega arith)
    go (Ok step) g more =
        rw (g.walked lines, met_having g.new (walk places (line + 1) step.empty lines), length-append g.new (met_in (walk places (line + 1) step.empty lines)))
        (omega (arith, more step.empty, g.short))

pub room_enough : RoomEnough
unfolding RoomEnough
room_enough places line empty block = omega (arith, met_short places line empty (whole_lines block), whole_long block)
