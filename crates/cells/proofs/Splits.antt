-- A block's lines, one after the other. Assumes nothing.
use Rattle.std.specs.Prelude.{if◌then◌else◌, nat_eq, cond}
use Rattle.std.specs.List.{slice_split, onto_first}
use Prim.Native.Nat.{ℕ, suc, ◌+◌, ◌-◌, ◌≤◌, ◌<◌}
use native.Mathlib.Omega.{arith}
use mathlib.Core.Bool.{Bool, true, false}
use mathlib.Core.List.{List, [], ◌∷◌}
use mathlib.Core.Path.{◌≡◌, refl, ap, ◌∙◌}
use borrow.Author.Tests.{lt-ltb, le-ltb}
use lib.ListN.{length, take, drop, length-drop, drop_of_length-le}
use lib.Seq.{drop-drop}
use lib.Dec.{eqb}
use Rattle.text.specs.Parts.{line_feed, up_to, joined, split}
use Rattle.text.proofs.Cutting.{to_mark}
use Rattle.cells.specs.Cells.{comma, cells, onto, whole_lines, tail_of}

pub whole-last : (l : List ℕ) → length l ≤ up_to line_feed l → whole_lines l ≡ []
unfolding whole_lines onto
whole-last =
    to_mark line_feed (λ l n. length l ≤ n → whole_lines l ≡ []) (λ h. refl) (λ b l e h. absurd (omega arith))
    (λ b l e more h. simp (e, more (omega arith)))

pub whole-more : (l : List ℕ) → up_to line_feed l < length l → whole_lines l ≡ take (up_to line_feed l) l ∷ whole_lines (drop (suc (up_to line_feed l)) l)
unfolding whole_lines onto
whole-more =
    to_mark line_feed (λ l n. n < length l → whole_lines l ≡ take n l ∷ whole_lines (drop (suc n) l)) (λ h. absurd (omega arith)) (λ b l e h. simp e)
    (λ b l e more h. simp (e, more (omega arith)))

pub tail_last : (l : List ℕ) → length l ≤ up_to line_feed l → tail_of l ≡ l
unfolding tail_of
tail_last [] h = refl
tail_last (b ∷ l) h = simp (le-ltb _ _ h)

pub tail_more : (l : List ℕ) → up_to line_feed l < length l → tail_of l ≡ tail_of (drop (suc (up_to line_feed l)) l)
unfolding tail_of up_to
tail_more =
    to_mark line_feed (λ l n. n < length l → tail_of l ≡ tail_of (drop (suc n) l)) (λ h. absurd (omega arith))
    (λ b l e h. simp (e, lt-ltb 0 (suc (length l)) (omega arith)))
    (λ b l e more h. simp (e, lt-ltb (suc (up_to line_feed l)) (suc (length l)) (omega arith)) (more (omega arith)))

-- ---- the walk

-- a line that ends at a place, and what stands behind it
module _ (block : List ℕ) (at end : ℕ) (e : end ≡ at + up_to line_feed (drop at block)) (inside : at ≤ length block) where
  behind : drop (suc (up_to line_feed (drop at block))) (drop at block) ≡ drop (end + 1) block
  behind = let n : at + suc (up_to line_feed (drop at block)) ≡ end + 1 = omega arith in drop-drop (suc (up_to line_feed (drop at block))) at block ∙ rw n

  module _ (h : end < length block) where
    less : up_to line_feed (drop at block) < length (drop at block)
    less = omega (arith, length-drop at block)

    pub one_line : whole_lines (drop at block) ≡ take (end - at) (drop at block) ∷ whole_lines (drop (end + 1) block)
    one_line =
        let n : up_to line_feed (drop at block) ≡ end - at = omega arith in
        whole-more (drop at block) less
        ∙ ap (λ (l : List ℕ). take (up_to line_feed (drop at block)) (drop at block) ∷ whole_lines l) behind
        ∙ ap (λ (m : ℕ). take m (drop at block) ∷ whole_lines (drop (end + 1) block)) n

    pub same_tail : tail_of (drop at block) ≡ tail_of (drop (end + 1) block)
    same_tail = tail_more (drop at block) less ∙ ap tail_of behind

  module _ (h : end ≡ length block) where
    all : length (drop at block) ≤ up_to line_feed (drop at block)
    all = omega (arith, length-drop at block)

    pub no_line : whole_lines (drop at block) ≡ []
    no_line = whole-last (drop at block) all

    pub all_tail : tail_of (drop at block) ≡ drop at block
    all_tail = tail_last (drop at block) all

pub lines_none : (block : List ℕ) (at : ℕ) → length block ≤ at → whole_lines (drop at block) ≡ []
unfolding whole_lines
lines_none block at h = rw (drop_of_length-le block h)

-- ---- a line's cells

-- as the library cuts them
pub cells-split : (line : List ℕ) → slice_split (λ b. nat_eq b comma) line ≡ cells line
unfolding split joined
cells-split [] = refl
cells-split (b ∷ line) = go (eqb b comma) (cells-split line)
  where
    onto_joined : (parts : List (List ℕ)) → onto_first b parts ≡ joined b parts
    onto_joined [] = refl
    onto_joined (part ∷ parts) = refl

    go : (t : Bool) → slice_split (λ b. nat_eq b comma) line ≡ cells line
        → (cond t ([] ∷ slice_split (λ b. nat_eq b comma) line) (onto_first b (slice_split (λ b. nat_eq b comma) line)))
        ≡ (if t then [] ∷ cells line else joined b (cells line))
    go true more = ap (λ (l : List (List ℕ)). [] ∷ l) more
    go false more = onto_joined _ ∙ ap (joined b) more
