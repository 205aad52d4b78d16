-- Records that are called one after the other, and a walk over those of a file. Assumes nothing.
use Prim.Native.Nat.{ℕ, ◌+◌, ◌*◌, ◌≤◌, ◌<◌}
use native.Mathlib.Omega.{arith}
use mathlib.Core.List.{List, [], ◌∷◌, ◌++◌, append_assoc, append-nil}
use mathlib.Core.Path.{◌≡◌, refl, sym, ◌∙◌, subst}
use lib.ListN.{length, length-append}
use Rattle.rulebook.specs.Call.{Result, call_of}
use Rattle.rulebook.specs.Ledger.{Ledger}
use Rattle.rulebook.specs.Answers.{Answer}
use Rattle.book.specs.Meaning.{ledger_of}
use Rattle.book.specs.Stored.{Kept}
use Rattle.lines.specs.Lines.{answer_line}
use Rattle.text.proofs.Putting.{put_then}
use Rattle.file.specs.Records.{records_of}
use Rattle.file.proofs.Walking.{Met, met_all, met_fewer, met_more}
use Rattle.printing.specs.Printed.{answer_lines, book_after, area_after, Lent, lent, Answered}

-- ---- some records, and more behind them

module _ (more : List (List ℕ)) where
  pub book_append :
      (book : Ledger) (area : List ℕ) (records : List (List ℕ))
      → book_after book area (records ++ more) ≡ book_after (book_after book area records) (area_after book area records) more
  unfolding book_after area_after
  book_append book area [] = refl
  book_append book area (octets ∷ records) = book_append (call_of book octets area).book (call_of book octets area).area records

  pub area_append :
      (book : Ledger) (area : List ℕ) (records : List (List ℕ))
      → area_after book area (records ++ more) ≡ area_after (book_after book area records) (area_after book area records) more
  unfolding book_after area_after
  area_append book area [] = refl
  area_append book area (octets ∷ records) = area_append (call_of book octets area).book (call_of book octets area).area records

  pub lines-append :
      (number : ℕ) (book : Ledger) (area : List ℕ) (records : List (List ℕ))
      → answer_lines number book area (records ++ more)
      ≡ answer_lines number book area records ++ answer_lines (number + length records) (book_after book area records) (area_after book area records) more
  unfolding answer_lines book_after area_after
  lines-append number book area [] = let n : number + 0 ≡ number = omega arith in rw n
  lines-append number book area (octets ∷ records) =
      let result : Result = call_of book octets area in
      let n : number + 1 + length records ≡ number + length (octets ∷ records) = omega arith in
      rw (lines-append (number + 1) result.book result.area records, n, append_assoc)

pub answered_none : (number : ℕ) (x : Lent) → Kept x.book → Answered number [] x x
unfolding answer_lines book_after area_after
answered_none number x kept = record { kept = kept; ledger = refl; area = refl; lines = sym (append-nil x.out) }

pub answered_then :
    {number : ℕ} {records : List (List ℕ)} {x y z : Lent} {more : List (List ℕ)} → Answered number records x y → Answered (number + length records) more y z
    → Answered number (records ++ more) x z
answered_then {number} {records} {x} {y} {z} {more} first second = record {
  kept = second.kept;
  ledger = second.ledger ∙ rw (first.ledger, first.area) (sym (book_append more _ _ records));
  area = second.area ∙ rw (first.ledger, first.area) (sym (area_append more _ _ records));
  lines = rw (lines-append more number (ledger_of x.book) x.area records) (put_then _ _ _ first.lines (rw (first.ledger, first.area) at second.lines));
}

-- one call
pub answered_one :
    (number : ℕ) (octets book area out after-book after-area after : List ℕ) (answer : Answer) → Kept after-book
    → answer ≡ (call_of (ledger_of book) octets area).answer → ledger_of after-book ≡ (call_of (ledger_of book) octets area).book
    → after-area ≡ (call_of (ledger_of book) octets area).area
    → after ≡ out ++ answer_line number answer → Answered number (octets ∷ []) (lent book area out) (lent after-book after-area after)
unfolding answer_lines book_after area_after
answered_one number octets book area out after-book after-area after answer kept a b c line = record {
  kept = kept;
  ledger = b;
  area = c;
  lines = rw (append-nil, ← a) line;
}

-- ---- a walk over the records of a file

-- the records that the walk met were called, and those of the rest are left
pub record Walked (file : List ℕ) (number : ℕ) (before now : Lent) (rest : List ℕ) (n : ℕ) : Type 0 where
  pub met : List (List ℕ)
  pub walk : Met file met rest
  pub answered : Answered number met before now
  pub counted : n ≡ number + length met
  pub room : length now.out ≤ length before.out + 63 * length met

pub walked_none : (file : List ℕ) (number : ℕ) (x : Lent) → Kept x.book → Walked file number x x file number
walked_none file number x kept = record {
  met = [];
  walk = record { left = refl };
  answered = answered_none number x kept;
  counted = omega arith;
  room = omega arith;
}

module _ {file : List ℕ} {number : ℕ} {before now : Lent} {rest : List ℕ} {n : ℕ} (w : Walked file number before now rest n) where
  pub walked_all : length rest ≡ 0 → Answered number (records_of file) before now
  walked_all none = subst (λ (l : List (List ℕ)). Answered number l before now) (met_all w.walk none) w.answered

  module _ (octets behind : List ℕ) (e : records_of rest ≡ octets ∷ records_of behind) where
    -- there is one record more than was met
    pub fewer : length w.met < length (records_of file)
    fewer = met_fewer w.walk octets behind e

    pub walked_more :
        (after : Lent) → Answered n (octets ∷ []) now after → length after.out ≤ length now.out + 63 → Walked file number before after behind (n + 1)
    walked_more after a near = record {
      met = w.met ++ (octets ∷ []);
      walk = met_more w.walk octets behind e;
      answered = answered_then w.answered (rw w.counted at a);
      counted = omega (arith, w.counted, length-append w.met (octets ∷ []));
      room = omega (arith, w.room, length-append w.met (octets ∷ []));
    }
