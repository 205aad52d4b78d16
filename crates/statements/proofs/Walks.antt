-- Records that are called one after the other, and a walk over those of a file from a place on. Assumes nothing.
use Prim.Native.Nat.{ℕ, ◌+◌, ◌≤◌, ◌<◌}
use native.Mathlib.Omega.{arith}
use mathlib.Core.List.{List, [], ◌∷◌, ◌++◌, append_assoc, append-nil}
use mathlib.Core.Path.{◌≡◌, refl, sym, ap, ◌∙◌}
use lib.ListN.{length, drop, length-append, length-drop}
use lib.Seq.{drop-drop, drop-append-le}
use Rattle.std.proofs.lemmas.List.{drop_all}
use Rattle.rulebook.specs.Call.{Result, answer_rows, call_of}
use Rattle.rulebook.specs.Forms.{row_of}
use Rattle.rulebook.specs.Ledger.{Ledger}
use Rattle.rulebook.specs.Record.{read_of}
use Rattle.rulebook.specs.Answers.{Answer}
use Rattle.book.specs.Meaning.{ledger_of}
use Rattle.book.specs.Stored.{Kept}
use Rattle.ledger.specs.Called.{Called}
use Rattle.text.proofs.Putting.{put_then}
use Rattle.file.specs.Records.{records_of}
use Rattle.file.proofs.Walking.{Met, met_fewer, met_more}
use Rattle.printing.specs.Printed.{book_after, area_after, Lent, lent}
use Rattle.printing.proofs.AnswerLines.{book_append, area_append}
use Rattle.statement_lines.specs.Lines.{row_lines, answer_line}
use Rattle.statements.specs.Stated.{form_in, call_lines, statement_lines, Stated}

-- ---- some records, and more behind them

pub lines-append :
    (more : List (List ℕ)) (number : ℕ) (book : Ledger) (area : List ℕ) (records : List (List ℕ))
    → statement_lines number book area (records ++ more)
    ≡ statement_lines number book area records ++ statement_lines (number + length records) (book_after book area records) (area_after book area records) more
unfolding statement_lines book_after area_after
lines-append more number book area [] = let n : number + 0 ≡ number = omega arith in rw n
lines-append more number book area (octets ∷ records) =
    let result : Result = call_of book octets area in
    let n : number + 1 + length records ≡ number + length (octets ∷ records) = omega arith in
    rw (lines-append more (number + 1) result.book result.area records, n, append_assoc)

stated_none : (number : ℕ) (x : Lent) → Kept x.book → Stated number [] x x
unfolding statement_lines book_after area_after
stated_none number x kept = record { kept = kept; ledger = refl; area = refl; lines = sym (append-nil x.out) }

stated_then :
    {number : ℕ} {records : List (List ℕ)} {x y z : Lent} {more : List (List ℕ)} → Stated number records x y → Stated (number + length records) more y z
    → Stated number (records ++ more) x z
stated_then {number} {records} {x} {y} {z} {more} first second = record {
  kept = second.kept;
  ledger = second.ledger ∙ rw (first.ledger, first.area) (sym (book_append more _ _ records));
  area = second.area ∙ rw (first.ledger, first.area) (sym (area_append more _ _ records));
  lines = rw (lines-append more number (ledger_of x.book) x.area records) (put_then _ _ _ first.lines (rw (first.ledger, first.area) at second.lines));
}

-- one call: its answer's line, and behind it those of its rows
pub stated_one :
    (number : ℕ) (octets book area out between book' area' after : List ℕ) (form rows : ℕ) (answer : Answer)
    → Called book octets area answer book' area' → form ≡ form_in (read_of octets) → rows ≡ answer_rows answer
    → between ≡ out ++ answer_line number form answer → after ≡ between ++ row_lines (row_of form).posts rows area'
    → Stated number (octets ∷ []) (lent book area out) (lent book' area' after)
unfolding statement_lines book_after area_after call_lines
stated_one number octets book area out between book' area' after form rows answer called f r line told = record {
  kept = called.kept;
  ledger = called.ledger;
  area = called.written;
  lines = rw (append-nil, ← f, ← called.answered, ← r, ← called.written) (put_then _ _ _ line told);
}

-- ---- a walk over the records of a file

-- the records that the walk met were called, and those of the bytes behind them are left
pub record Walked (file : List ℕ) (number : ℕ) (before now : Lent) (rest : List ℕ) (size n : ℕ) : Type 0 where
  pub met : List (List ℕ)
  pub walk : Met file met rest
  pub behind : drop size file ≡ rest
  pub inside : size ≤ length file
  pub stated : Stated number met before now
  pub counted : n ≡ number + length met

pub walked_none : (file : List ℕ) (number : ℕ) (x : Lent) → Kept x.book → Walked file number x x file 0 number
walked_none file number x kept = record {
  met = [];
  walk = record { left = refl };
  behind = refl;
  inside = omega arith;
  stated = stated_none number x kept;
  counted = omega arith;
}

module _ {file : List ℕ} {number : ℕ} {before now : Lent} {rest : List ℕ} {size n : ℕ} (w : Walked file number before now rest size n) where
  module _ (octets behind : List ℕ) (parts : rest ≡ octets ++ behind) where
    sizes : length file ≡ size + (length octets + length behind)
    sizes = omega (arith, w.inside, sym (length-drop size file) ∙ ap length w.behind ∙ ap length parts ∙ length-append octets behind)

    module _ (e : records_of rest ≡ octets ∷ records_of behind) where
      -- there is one record more than was met
      pub fewer : length w.met < length (records_of file)
      fewer = met_fewer w.walk octets behind e

      pub walked_more : (after : Lent) → Stated n (octets ∷ []) now after → Walked file number before after behind (size + length octets) (n + 1)
      walked_more after a =
          let all : length octets ≤ length octets = omega arith in
          record {
            met = w.met ++ (octets ∷ []);
            walk = met_more w.walk octets behind e;
            behind =
                sym (drop-drop (length octets) size file) ∙ rw (w.behind, parts, drop-append-le (length octets) octets behind, drop_all (length octets) octets all);
            inside = omega (arith, sizes);
            stated = stated_then w.stated (rw w.counted at a);
            counted = omega (arith, w.counted, length-append w.met (octets ∷ []));
          }
