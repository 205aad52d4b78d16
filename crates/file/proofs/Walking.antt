-- Who goes over the pieces of a file meets its records, each in its turn, and ends behind the last. Assumes nothing.
use Prim.Native.Nat.{ℕ, zero, suc, ◌+◌, ◌-◌, ◌*◌, ◌/◌, ◌≤◌, ◌<◌, min}
use native.Mathlib.Omega.{arith}
use mathlib.Core.List.{List, [], ◌∷◌, ◌++◌, append_assoc, append-nil}
use mathlib.Core.Path.{◌≡◌, refl, sym, ap, ◌∙◌}
use lib.ListN.{length, take, drop, length-drop, length-append}
use lib.Seq.{take_all, take-append-le, drop-append-le}
use Rattle.std.proofs.Common.{inl, inr}
use Rattle.std.specs.declared.slice.Chunks.{Chunks}
use Rattle.std.proofs.lemmas.Bool.{cases_lt}
use Rattle.std.proofs.lemmas.List.{nil_from_length}
use denote.Ref.{Bor}
use Rattle.std.proofs.Common.{Some}
use Rattle.std.specs.Iterator.{AlwaysYields}
use Rattle.std.specs.Slice.Iter.{chunks_rest, chunks_size, chunks_steps}
use Rattle.file.specs.Records.{parts, records_of}

-- no byte, no record
pub no_records : (file : List ℕ) → length file ≡ 0 → records_of file ≡ []
unfolding records_of parts
no_records file e = let n : (length file + 39) / 40 ≡ 0 = omega arith in rw n

-- else the first 40 bytes are the first record
pub first-record : (file : List ℕ) → 0 < length file → records_of file ≡ take 40 file ∷ records_of (drop 40 file)
unfolding records_of parts
first-record file some =
    let n : (length file + 39) / 40 ≡ suc ((length file - 40 + 39) / 40) = omega arith in
    rw (n, length-drop)

-- a piece at the front of what is left is the next record
pub next_record :
    (file piece rest : List ℕ) → file ≡ piece ++ rest → length piece ≡ min 40 (length file) → 0 < length file → records_of file ≡ piece ∷ records_of rest
next_record file piece rest e l some =
    let sum = ap length e ∙ length-append piece rest in
    elim (cases_lt (length file) 40) [
      | inl short ↦
          let none : rest ≡ [] = nil_from_length rest (omega arith) in
          let one : file ≡ piece = e ∙ rw (none, append-nil piece) in
          let few : length file ≤ 40 = omega arith in
          let behind : length (drop 40 file) ≡ 0 = length-drop 40 file ∙ omega arith in
          first-record file some ∙ rw (take_all 40 file few, no_records (drop 40 file) behind, none, no_records [] refl, one)
      | inr long ↦
          let full : 40 ≤ length piece = omega arith in
          let whole : length piece ≤ 40 = omega arith in
          let none : drop 40 piece ≡ [] = nil_from_length (drop 40 piece) (length-drop 40 piece ∙ omega arith) in
          first-record file some
          ∙ rw (e, take-append-le 40 piece rest, drop-append-le 40 piece rest, none, take_all 40 piece whole)
    ]

pub piece_next :
    (s : Chunks ℕ) (piece : Bor (List ℕ)) (t : Chunks ℕ) → chunks_size s ≡ 40 → chunks_steps s (Some piece) t
    → records_of (chunks_rest s) ≡ piece.now ∷ records_of (chunks_rest t)
piece_next s piece t size step = next_record _ _ _ step.1.0 (step.1.1 ∙ rw size) step.1.2

-- so a walk over the pieces meets the records of the file, no more and no fewer
pub always_records :
    (s : Chunks ℕ) (left : List (List ℕ)) → chunks_size s ≡ 40 → records_of (chunks_rest s) ≡ left → AlwaysYields chunks_steps (λ piece. piece.now) s left
always_records s [] size e = λ piece t step.
    let few = sym (ap length e) ∙ ap length (piece_next s piece t size step) in
    absurd (omega arith)
always_records s (octets ∷ left) size e = (
  λ t step.
      let none = sym (ap length (no_records _ step.1.0)) ∙ ap length e in
      absurd (omega arith),
  λ piece t step.
      let one = sym (piece_next s piece t size step) ∙ e in
      (cc, always_records t left (step.0 ∙ size) cc),
)

-- a walk has met the first records of a file, and those of the rest are left
pub record Met (file : List ℕ) (met : List (List ℕ)) (rest : List ℕ) : Type 0 where
  pub left : met ++ records_of rest ≡ records_of file

module _ {file : List ℕ} {met : List (List ℕ)} {rest : List ℕ} (w : Met file met rest) where
  pub met_all : length rest ≡ 0 → met ≡ records_of file
  met_all none = sym (append-nil met) ∙ ap (λ (l : List (List ℕ)). met ++ l) (sym (no_records rest none)) ∙ w.left

  module _ (octets behind : List ℕ) (e : records_of rest ≡ octets ∷ records_of behind) where
    -- there is one record more than was met
    pub met_fewer : length met < length (records_of file)
    met_fewer =
        let all = ap length w.left in
        let one = ap length e in
        omega (arith, length-append met (records_of rest))

    pub met_more : Met file (met ++ (octets ∷ [])) behind
    met_more = record { left = append_assoc met _ _ ∙ rw (← e) w.left }

parts-length : (n : ℕ) (file : List ℕ) → length (parts n file) ≡ n
unfolding parts
parts-length zero file = refl
parts-length (suc n) file = ap suc (parts-length n (drop 40 file))

-- how many records a file has
pub records_length : (file : List ℕ) → length (records_of file) ≡ (length file + 39) / 40
unfolding records_of
records_length file = parts-length ((length file + 39) / 40) file

-- a file that is read in blocks: whole records first, then the rest, has the records of both
pub records_append : (n : ℕ) (block rest : List ℕ) → length block ≡ 40 * n → records_of (block ++ rest) ≡ records_of block ++ records_of rest
records_append zero [] rest e = rw (no_records [] refl)
records_append zero (x ∷ block) rest e = absurd (omega arith)
records_append (suc n) block rest e =
    let full : 40 ≤ length block = omega arith in
    let more : length (drop 40 block) ≡ 40 * n = length-drop 40 block ∙ omega arith in
    first-record (block ++ rest) (omega (arith, length-append block rest))
    ∙ rw (take-append-le 40 block rest, drop-append-le 40 block rest, records_append n (drop 40 block) rest more, first-record block (omega arith))
