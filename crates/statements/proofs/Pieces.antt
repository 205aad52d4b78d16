-- Records whose lines are printed piece by piece: none yet, a part more, a buffer that was printed. Assumes nothing.
use Prim.Native.Nat.{ℕ}
use native.Mathlib.Omega.{arith}
use mathlib.Core.List.{List, [], ◌++◌, append_assoc, append-nil}
use mathlib.Core.Path.{◌≡◌, refl, sym, ap, ◌∙◌}
use lib.ListN.{take, length-append}
use Rattle.book.specs.Meaning.{ledger_of}
use Rattle.book.specs.Stored.{Kept}
use Rattle.printing.specs.Printed.{book_after, area_after, Lent}
use Rattle.printing.proofs.AnswerLines.{book_append, area_append}
use Rattle.statements.specs.Stated.{statement_lines, PartPut, RecordsStated}
use Rattle.statements.specs.declared.calls.Part.{Part}
use Rattle.statements.proofs.Walks.{lines-append}

pub stated_nothing : (number : ℕ) (book area waiting : List ℕ) → Kept book → RecordsStated [] number book area waiting number book area waiting
unfolding statement_lines book_after area_after
stated_nothing number book area waiting kept = record {
  kept = kept;
  ledger = refl;
  area = refl;
  numbered = omega arith;
  printed = [];
  lines = sym (append-nil waiting);
}

-- a part's lines stand behind what stood in the buffer
pub part-stated :
    {N : ℕ} {file : List ℕ} {number : ℕ} {before after : Lent} {part : Part} → (p : PartPut N file number before part after)
    → RecordsStated p.records number before.book before.area before.out part.number after.book after.area after.out
part-stated p = record {
  kept = p.stated.kept;
  ledger = p.stated.ledger;
  area = p.stated.area;
  numbered = p.numbered;
  printed = [];
  lines = p.stated.lines;
}

-- what stands in the buffer is printed
pub stated_printed :
    {records : List (List ℕ)} {number number' : ℕ} {book area waiting book' area' waiting' : List ℕ}
    → RecordsStated records number book area waiting number' book' area' waiting' → RecordsStated records number book area waiting number' book' area' []
stated_printed {waiting' = waiting'} s = record {
  kept = s.kept;
  ledger = s.ledger;
  area = s.area;
  numbered = s.numbered;
  printed = s.printed ++ waiting';
  lines = append-nil (s.printed ++ waiting') ∙ s.lines;
}

-- records, and more behind them
pub stated_more :
    {records more : List (List ℕ)} {number number' number'' : ℕ} {book area waiting book' area' waiting' book'' area'' waiting'' : List ℕ}
    → RecordsStated records number book area waiting number' book' area' waiting'
    → RecordsStated more number' book' area' waiting' number'' book'' area'' waiting''
    → RecordsStated (records ++ more) number book area waiting number'' book'' area'' waiting''
stated_more {records} {more} {number} {book = book} {area} {waiting} {waiting' = waiting'} {waiting'' = waiting''} first second = record {
  kept = second.kept;
  ledger = second.ledger ∙ rw (first.ledger, first.area) (sym (book_append more _ _ records));
  area = second.area ∙ rw (first.ledger, first.area) (sym (area_append more _ _ records));
  numbered = second.numbered ∙ rw (first.numbered, length-append records more) (omega arith);
  printed = first.printed ++ second.printed;
  lines =
      append_assoc first.printed second.printed waiting''
      ∙ ap (λ (l : List ℕ). first.printed ++ l) second.lines
      ∙ sym (append_assoc first.printed waiting' _)
      ∙ rw (first.lines, first.numbered, first.ledger, first.area, lines-append more number (ledger_of book) area records)
      (append_assoc waiting (statement_lines number (ledger_of book) area records) _);
}
