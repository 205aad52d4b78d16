-- The walk over the lines of a block: what it has met, and the records of that in the buffer. Assumes nothing.
use Rattle.std.specs.Prelude.{if◌then◌else◌, nat_eq, cond, not, Bool, true, false, Option, Some, None, Result, Ok, Err}
use Rattle.std.specs.List.{position_or_len}
use borrow.Author.Tests.{ltb-true, ltb-false}
use lib.Dec.{eqb, ltb}
use Prim.Native.Nat.{ℕ, suc, ◌+◌, ◌-◌, ◌*◌, ◌≤◌, ◌<◌}
use native.Mathlib.Omega.{arith}
use mathlib.Core.List.{List, [], ◌∷◌, ◌++◌, append-nil}
use mathlib.Core.Path.{◌≡◌, refl, sym, ap, ◌∙◌}
use borrow.Rule.Slice.PartMut.{mid_of, put_mid, put_same}
use lib.ListN.{length, take, drop, length-append, length-drop}
use lib.Seq.{length-take-le}
use Rattle.bits.proofs.Parts.{part-next}
use Rattle.rulebook.specs.declared.Order.{Order}
use Rattle.text.specs.Parts.{line_feed, up_to}
use Rattle.cells.specs.Cells.{whole_lines, tail_of}
use Rattle.cells.proofs.Splits.{one_line, same_tail, no_line, all_tail}
use Rattle.table.specs.Lines.{records_of, filled}
use Rattle.table.specs.Blocks.{having, walk, met_in, used_of, checked_as, step_of, step_written}
use Rattle.table.specs.Blocks.Walked.{stopped, reached}
use Rattle.table.specs.declared.Checked.{Checked}
use Rattle.table.specs.declared.Refused.{Refused}
use Rattle.table.specs.declared.Step.{Step}
use Rattle.table.proofs.Walking.{records_long, records_both, having-none, having-both, Added, Goes, goes}

-- where the next line feed stands, as `position` answers it
abbrev pub FeedAt : List ℕ → Option ℕ → Type 0
FeedAt l r =
    r ≡ cond (ltb (position_or_len (λ b. nat_eq b line_feed) l) (length l)) (Some (position_or_len (λ b. nat_eq b line_feed) l)) None

feed_at : (l : List ℕ) → position_or_len (λ b. nat_eq b line_feed) l ≡ up_to line_feed l
unfolding up_to
feed_at [] = refl
feed_at (b ∷ l) = go (eqb b line_feed) (feed_at l)
  where
    go : (t : Bool) → position_or_len (λ b. nat_eq b line_feed) l ≡ up_to line_feed l
        → cond (not t) (1 + position_or_len (λ b. nat_eq b line_feed) l) 0 ≡ (if t then 0 else suc (up_to line_feed l))
    go true more = refl
    go false more = omega arith

-- a line that ends in the block, and one that does not
pub line_ends : (l : List ℕ) (size : ℕ) → FeedAt l (Some size) → (size ≡ up_to line_feed l) × (size < length l)
line_ends l size e = go (ltb (position_or_len (λ b. nat_eq b line_feed) l) (length l)) refl e
  where
    go : (t : Bool) → ltb (position_or_len (λ b. nat_eq b line_feed) l) (length l) ≡ t
        → Some size ≡ cond t (Some (position_or_len (λ b. nat_eq b line_feed) l)) None → (size ≡ up_to line_feed l) × (size < length l)
    go true f e =
        let same : size ≡ position_or_len (λ b. nat_eq b line_feed) l = cc in
        (same ∙ feed_at l, omega (arith, same, ltb-true _ _ f))
    go false f e = cc

pub no_end : (l : List ℕ) → FeedAt l None → length l ≤ up_to line_feed l
no_end l e = go (ltb (position_or_len (λ b. nat_eq b line_feed) l) (length l)) refl e
  where
    go : (t : Bool) → ltb (position_or_len (λ b. nat_eq b line_feed) l) (length l) ≡ t
        → None ≡ cond t (Some (position_or_len (λ b. nat_eq b line_feed) l)) None → length l ≤ up_to line_feed l
    go true f e = cc
    go false f e = omega (arith, feed_at l, ltb-false _ _ f)

-- it has come to a place of the block and the number of a line, and to a place of the buffer behind the records of the orders that it met
pub record Walking (block places : List ℕ) (first : ℕ) (empty₀ : Option ℕ) (out₀ out : List ℕ) (at line : ℕ) (empty : Option ℕ) (to : ℕ) : Type 0 where
  pub met : List Order
  pub left : having met (walk places line empty (whole_lines (drop at block))) ≡ walk places first empty₀ (whole_lines block)
  pub tail : tail_of (drop at block) ≡ tail_of block
  pub inside : at ≤ length block
  pub counted : line ≤ first + at
  pub place : to ≡ 40 * length met
  pub short : to ≤ 20 * at
  pub contents : out ≡ records_of met ++ drop to out₀

pub walking_none : (block places : List ℕ) (first : ℕ) (empty : Option ℕ) (out : List ℕ) → Walking block places first empty out out 0 first empty 0
unfolding records_of
walking_none block places first empty out = record {
  met = [];
  left = having-none (walk places first empty (whole_lines block));
  tail = refl;
  inside = omega arith;
  counted = omega arith;
  place = omega arith;
  short = omega arith;
  contents = refl;
}

module _ {block places : List ℕ} {first : ℕ} {empty₀ : Option ℕ} {out₀ out : List ℕ} {at line : ℕ} {empty : Option ℕ} {to : ℕ}
    (w : Walking block places first empty₀ out₀ out at line empty to) (room : 20 * length block + 40 ≤ length out₀) where
  pub walking_long : length out ≡ length out₀
  walking_long =
      ap length w.contents
      ∙ omega (arith, length-append (records_of w.met) (drop to out₀), records_long w.met, length-drop to out₀, w.place, w.short, w.inside)

  abbrev Answers : Result Checked Refused → List ℕ → Type 0
  Answers answer after =
      (answer ≡ checked_as (used_of block) (walk places first empty₀ (whole_lines block)))
      × (after ≡ filled (met_in (walk places first empty₀ (whole_lines block))) out₀)

  -- no line is left
  ended : whole_lines (drop at block) ≡ [] → tail_of (drop at block) ≡ drop at block → Answers (Ok (record { used = at; line = line; empty = empty; wrote = to })) out
  unfolding walk having checked_as met_in used_of filled
  ended none all =
      let end : reached line empty w.met ≡ walk places first empty₀ (whole_lines block) =
      ap (reached line empty) (sym (append-nil w.met))
      ∙ ap (λ (l : List (List ℕ)). having w.met (walk places line empty l)) (sym none) ∙ w.left
      in
      let used : length block - length (tail_of block) ≡ at = rw (sym w.tail ∙ all) (omega (arith, length-drop at block, w.inside)) in
      (rw (← end, used, w.place), w.contents ∙ rw (← end, w.place))

  module _ (end : ℕ) (ends : end ≡ at + up_to line_feed (drop at block)) where
    pub walking_tail : end ≡ length block → Answers (Ok (record { used = at; line = line; empty = empty; wrote = to })) out
    walking_tail h = ended (no_line block at end ends w.inside h) (all_tail block at end ends w.inside h)

    module _ (h : end < length block) (part : List ℕ)
        (p : part ≡ step_written places empty (take (end - at) (drop at block)) (mid_of to (length out - to) out)) where
      lines : whole_lines (drop at block) ≡ take (end - at) (drop at block) ∷ whole_lines (drop (end + 1) block)
      lines = one_line block at end ends w.inside h

      module _ (why : Refused) (r : step_of places line empty (take (end - at) (drop at block)) ≡ Err why) where
        refused : Goes places line empty (take (end - at) (drop at block)) (Err why)
        refused = rw r at (goes places line empty (take (end - at) (drop at block)))

        same : put_mid to (length out - to) out part ≡ out
        same = ap (put_mid to (length out - to) out) (p ∙ refused.1 (mid_of to (length out - to) out)) ∙ put_same to (length out - to) out

        pub walking_refused : Answers (Err why) (put_mid to (length out - to) out part)
        unfolding having checked_as met_in filled
        walking_refused =
            let stop : stopped why w.met ≡ walk places first empty₀ (whole_lines block) =
            ap (stopped why) (sym (append-nil w.met))
            ∙ ap (having w.met) (sym (ap (walk places line empty) lines ∙ refused.0 (whole_lines (drop (end + 1) block)))) ∙ w.left
            in
            (rw (← stop), same ∙ w.contents ∙ rw (← stop, w.place))

        pub refused-long : length (put_mid to (length out - to) out part) ≡ length out₀
        refused-long = ap length same ∙ walking_long

      module _ (next : Step) (r : step_of places line empty (take (end - at) (drop at block)) ≡ Ok next) where
        added : Added places line empty (take (end - at) (drop at block)) next.empty next.wrote
        added = rw r at (goes places line empty (take (end - at) (drop at block)))

        pub wrote_short : to + next.wrote ≤ 20 * (end + 1)
        wrote_short = omega (arith, w.short, added.wrote_is, added.short, length-take-le (end - at) (drop at block) (omega (arith, length-drop at block)))

        pub walking_on : Walking block places first empty₀ out₀ (put_mid to (length out - to) out part) (end + 1) (line + 1) next.empty (to + next.wrote)
        walking_on = record {
          met = w.met ++ added.new;
          left =
              having-both w.met added.new (walk places (line + 1) next.empty (whole_lines (drop (end + 1) block)))
              ∙ ap (having w.met) (sym (ap (walk places line empty) lines ∙ added.walked (whole_lines (drop (end + 1) block)))) ∙ w.left;
          tail = sym (same_tail block at end ends w.inside h) ∙ w.tail;
          inside = omega arith;
          counted = omega (arith, w.counted);
          place = omega (arith, w.place, added.wrote_is, length-append w.met added.new);
          short = wrote_short;
          contents =
              ap (put_mid to (length out - to) out) (p ∙ added.written (mid_of to (length out - to) out))
              ∙ part-next out₀ out (records_of w.met) (records_of added.new) to next.wrote w.contents (records_long w.met ∙ sym w.place)
              (records_long added.new ∙ sym added.wrote_is) (omega (arith, wrote_short))
              ∙ rw (records_both w.met added.new);
        }
