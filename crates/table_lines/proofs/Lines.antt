-- The lines of records, one behind the other, and a walk over the records of a file. Assumes nothing.
use Prim.Native.Nat.{ℕ, ◌+◌, ◌*◌, ◌/◌, ◌%◌, ◌≤◌, ◌<◌}
use native.Mathlib.Omega.{arith}
use mathlib.Core.List.{List, [], ◌∷◌, ◌++◌, append_assoc, append-nil}
use mathlib.Core.Path.{◌≡◌, refl, sym, subst}
use lib.ListN.{length, length-append}
use Rattle.rulebook.specs.Record.{read_of}
use Rattle.text.proofs.Putting.{put_then}
use Rattle.file.specs.Records.{records_of}
use Rattle.file.proofs.Walking.{Met, met_all, met_fewer, met_more, records_append}
use Rattle.table_lines.specs.Exported.{read_line, record_lines}

pub lines-append : (records more : List (List ℕ)) → record_lines (records ++ more) ≡ record_lines records ++ record_lines more
unfolding record_lines
lines-append [] more = refl
lines-append (octets ∷ records) more = rw (lines-append records more, append_assoc)

-- a file in blocks: a block of whole records, then the rest
pub in_blocks : (block rest : List ℕ) → length block % 40 ≡ 0
    → record_lines (records_of (block ++ rest)) ≡ record_lines (records_of block) ++ record_lines (records_of rest)
in_blocks block rest whole =
    let full : length block ≡ 40 * (length block / 40) = omega arith in
    rw (records_append (length block / 40) block rest full, lines-append (records_of block) (records_of rest))

-- the lines of the records that the walk met were put, and those of the rest are left
pub record Walked (file out now rest : List ℕ) : Type 0 where
  pub met : List (List ℕ)
  pub walk : Met file met rest
  pub put : now ≡ out ++ record_lines met
  pub room : length now ≤ length out + 1556 * length met

pub walked_none : (file out : List ℕ) → Walked file out out file
unfolding record_lines
walked_none file out = record { met = []; walk = record { left = refl }; put = sym (append-nil out); room = omega arith }

module _ {file out now rest : List ℕ} (w : Walked file out now rest) where
  pub walked_all : length rest ≡ 0 → now ≡ out ++ record_lines (records_of file)
  walked_all none = subst (λ (l : List (List ℕ)). now ≡ out ++ record_lines l) (met_all w.walk none) w.put

  module _ (octets behind : List ℕ) (e : records_of rest ≡ octets ∷ records_of behind) where
    -- there is one record more than was met
    pub fewer : length w.met < length (records_of file)
    fewer = met_fewer w.walk octets behind e

    pub walked_more : (after : List ℕ) → after ≡ now ++ read_line (read_of octets) → length after ≤ length now + 1556 → Walked file out after behind
    unfolding record_lines
    walked_more after line near = record {
      met = w.met ++ (octets ∷ []);
      walk = met_more w.walk octets behind e;
      put = rw (lines-append w.met (octets ∷ []), append-nil (read_line (read_of octets))) (put_then out (record_lines w.met) (read_line (read_of octets)) w.put line);
      room = omega (arith, w.room, length-append w.met (octets ∷ []));
    }
