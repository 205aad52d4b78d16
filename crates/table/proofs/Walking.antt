-- The lines of a block, one after the other, and their records, one behind the other in a buffer. Assumes nothing.
use Rattle.std.specs.Prelude.{if◌then◌else◌, Option, Some, None, Result, Ok, Err}
use Prim.Native.Nat.{ℕ, ◌+◌, ◌*◌, ◌≤◌, ◌<◌}
use native.Mathlib.Omega.{arith}
use mathlib.Core.Bool.{Bool, true, false, true≢false}
use mathlib.Core.List.{List, [], ◌∷◌, ◌++◌, append_assoc, append-nil}
use mathlib.Core.Path.{◌≡◌, refl, sym, ap, ◌∙◌}
use lib.ListN.{length, drop, length-append}
use Rattle.bits.specs.Layout.{pack}
use Rattle.bits.proofs.Numbers.{length_bytes}
use Rattle.rulebook.specs.Field.{widths}
use Rattle.rulebook.specs.Record.{fields_of, record_of}
use Rattle.rulebook.specs.declared.Order.{Order}
use Rattle.cells.specs.Cells.{is_empty, front}
use Rattle.table.specs.Lines.{row_of, row_written, records_of}
use Rattle.table.specs.Blocks.{Walked, having, walk_row, first_empty, walk, step_row, step_unless, step_of, step_written}
use Rattle.table.specs.Blocks.Walked.{stopped, reached}
use Rattle.table.specs.declared.Refused.{Refused}
use Rattle.table.specs.declared.Step.{Step}
use Rattle.table.specs.declared.Wrong.{Wrong}

-- ---- records

pub record_long : (order : Order) → length (record_of order) ≡ 40
unfolding record_of
record_long order = length_bytes 40 (pack 0 widths (fields_of order))

pub records_long : (all : List Order) → length (records_of all) ≡ 40 * length all
unfolding records_of
records_long [] = refl
records_long (order ∷ others) = omega (arith, length-append (record_of order) (records_of others), record_long order, records_long others)

pub records_both : (all others : List Order) → records_of (all ++ others) ≡ records_of all ++ records_of others
unfolding records_of
records_both [] others = refl
records_both (order ∷ all) others =
    ap (λ (l : List ℕ). record_of order ++ l) (records_both all others) ∙ sym (append_assoc (record_of order) (records_of all) (records_of others))

-- ---- orders met before

pub having-none : (w : Walked) → having [] w ≡ w
unfolding having
having-none (stopped why met) = refl
having-none (reached line empty met) = refl

pub having-both : (one other : List Order) (w : Walked) → having (one ++ other) w ≡ having one (having other w)
unfolding having
having-both one other (stopped why met) = ap (stopped why) (append_assoc one other met)
having-both one other (reached line empty met) = ap (reached line empty) (append_assoc one other met)

-- ---- one line

-- a line that passes: what it adds
pub record Added (places : List ℕ) (line : ℕ) (empty : Option ℕ) (text : List ℕ) (empty' : Option ℕ) (wrote : ℕ) : Type 0 where
  pub new : List Order
  pub walked : (others : List (List ℕ)) → walk places line empty (text ∷ others) ≡ having new (walk places (line + 1) empty' others)
  pub wrote_is : wrote ≡ 40 * length new
  pub short : 2 * length new ≤ length text + 1
  pub written : (out : List ℕ) → step_written places empty text out ≡ records_of new ++ drop wrote out

not_nothing : (text : List ℕ) → is_empty text ≡ false → 0 < length text
unfolding is_empty front
not_nothing [] e = absurd (true≢false e)
not_nothing (b ∷ text) e = omega arith

module _ (places : List ℕ) (line : ℕ) (empty : Option ℕ) (text : List ℕ) where
  abbrev pub Goes : Result Step Refused → Type 0
  Goes (Err why) =
      ((others : List (List ℕ)) → walk places line empty (text ∷ others) ≡ stopped why [])
      × ((out : List ℕ) → step_written places empty text out ≡ out)
  Goes (Ok step) = Added places line empty text step.empty step.wrote

  pub goes : Goes (step_of places line empty text)
  unfolding step_of step_row
  goes = by (is_empty text) refl empty refl (row_of places text) refl
    where
      by : (s : Bool) → is_empty text ≡ s → (o : Option ℕ) → empty ≡ o → (r : Result Order Wrong) → row_of places text ≡ r
          → Goes (if s then Ok (record { empty = first_empty empty line; wrote = 0 }) else step_unless o (step_row r line))
      by true e o f r g = record {
        new = [];
        walked = λ others. unfold walk in simp e (sym (having-none (walk places (line + 1) (first_empty empty line) others)));
        wrote_is = refl;
        short = omega arith;
        written = λ out. unfold step_written records_of in simp e;
      }
      by false e (Some at) f r g = (λ others. unfold walk in simp (e, f), λ out. unfold step_written in simp (e, f))
      by false e None f (Err wrong) g =
          (λ others. unfold walk walk_row in simp (e, f, g), λ out. unfold step_written row_written in simp (e, f, g))
      by false e None f (Ok order) g = record {
        new = order ∷ [];
        walked = λ others. unfold walk walk_row in simp (e, f, g);
        wrote_is = refl;
        short = omega (arith, not_nothing text e);
        written = λ out. unfold step_written row_written records_of in simp (e, f, g) (rw (append-nil (record_of order)));
      }
