-- Lines that are read block after block. Assumes nothing.
use Prim.Native.Nat.{ℕ, ◌+◌, ◌≤◌}
use Rattle.std.specs.Prelude.{Option, None, Result, Ok, Err}
use mathlib.Core.List.{List, [], ◌++◌, append-nil, append_assoc}
use mathlib.Core.Path.{◌≡◌, refl, sym, ap, subst, ◌∙◌}
use borrow.Rule.Slice.PartMut.{put_mid}
use lib.ListN.{length, take}
use lib.Seq.{take-append-le, take-append-add, length-take-le}
use Rattle.rulebook.specs.declared.Order.{Order}
use Rattle.cells.specs.Cells.{lines_of}
use Rattle.table.specs.Lines.{Imported, in_line}
use Rattle.table.specs.Lines.Imported.{refused_as}
use Rattle.table.specs.declared.Columns.{Columns}
use Rattle.table.specs.declared.Refused.{Refused}
use Rattle.table.specs.declared.Wrong.{Wrong}
use Rattle.table.specs.Blocks.{Walked, having, walk, outcome}
use Rattle.table.specs.Blocks.Walked.{stopped, reached}
use Rattle.table.proofs.Walking.{having-none, having-both}
use Rattle.table_buffer.specs.First.{FirstRead}
use Rattle.table_buffer.specs.declared.first.First.{First}
use Rattle.table_buffer.specs.Blocks.{inside, Ordered, Continues, Goes}
use Rattle.table_buffer.specs.declared.Reading.{Reading}
use Rattle.table_buffer.specs.declared.Next.{Next}
use Rattle.import.specs.Reading.{Says, ReadOn, RowsRead, FileRead, Comes}
use Rattle.import.specs.declared.Stop.{Stop}
use Rattle.table_buffer.specs.declared.Rest.TheVariants.{Ended}

-- bytes read behind those held
pub read_behind : (held n count : ℕ) (input part : List ℕ) → held ≤ length input → n ≤ length part
    → take (held + n) (put_mid held count input part) ≡ take held input ++ take n part
read_behind held n count input part h k =
    let l : length (take held input) ≡ held = length-take-le held input h in
    ap (λ (m : ℕ). take (m + n) (put_mid held count input part)) (sym l)
    ∙ take-append-add (take held input) _ n ∙ ap (λ (r : List ℕ). take held input ++ r) (take-append-le n part _ k)

outcome-having : (met : List Order) (w : Walked) (why : Refused) → outcome w ≡ refused_as why → outcome (having met w) ≡ refused_as why
unfolding outcome having
outcome-having met (stopped because others) why e = e
outcome-having met (reached line empty others) why e = cc

ordered-having : (met : List Order) (w : Walked) → Ordered (outcome w) → Ordered (outcome (having met w))
unfolding outcome having
ordered-having met (stopped why others) o = record { met = o.met; is = o.is }
ordered-having met (reached line empty others) o = record { met = met ++ others; is = refl }

-- what was read so far, behind the bytes of a first reading, is walked on from the bytes of another; nothing was read where the file had ended
pub record So (places input : List ℕ) (first : Reading) (input' : List ℕ) (reading : Reading) : Type 0 where
  pub seen : List ℕ
  pub on : Continues places first.line first.empty (inside first input ++ seen) (inside reading input') reading.line reading.empty
  pub only : first.rest ≡ Ended → (seen ≡ []) × (reading.rest ≡ Ended)

pub so_first : (places input : List ℕ) (first : Reading) → So places input first input first
so_first places input first = record {
  seen = [];
  on = record {
    met = [];
    is = λ later. rw (append-nil (inside first input)) (sym (having-none (walk places first.line first.empty (lines_of (inside first input ++ later)))));
  };
  only = λ e. (refl, e);
}

module _ {places input : List ℕ} {first : Reading} {input' : List ℕ} {reading : Reading} (s : So places input first input' reading) where
  all_lines : walk places first.line first.empty (lines_of (inside first input ++ s.seen))
      ≡ having s.on.met (walk places reading.line reading.empty (lines_of (inside reading input')))
  all_lines =
      ap (λ (l : List ℕ). walk places first.line first.empty (lines_of l)) (sym (append-nil (inside first input ++ s.seen)))
      ∙ s.on.is []
      ∙ ap (λ (l : List ℕ). having s.on.met (walk places reading.line reading.empty (lines_of l))) (append-nil (inside reading input'))

  -- the answer, where nothing more is read
  pub so_ended : (input'' : List ℕ) (line : ℕ) → Comes places reading input' input'' (Ok (Next.Ended line)) → RowsRead places input first (Ok line)
  unfolding Comes Goes Says
  so_ended input'' line g = record { more = s.seen; only = λ f. (s.only f).0; says = rw all_lines (ordered-having s.on.met _ g) }

  pub so_stopped : (input'' : List ℕ) (stop : Stop) → Comes places reading input' input'' (Err stop) → RowsRead places input first (Err stop)
  unfolding Comes Goes Says
  so_stopped input'' (Stop.Refused why) g = record {
    more = s.seen;
    only = λ f. (s.only f).0;
    says = λ n. ap outcome all_lines ∙ outcome-having s.on.met _ why (g n);
  }
  so_stopped input'' Stop.Failed g = record { more = s.seen; only = λ f. (s.only f).0; says = tt }

  -- the next block
  pub so_on : {input'' input''' : List ℕ} {held line : ℕ} {empty : Option ℕ} {next : Reading} → Comes places reading input' input'' (Ok (Next.More held line empty))
      → ReadOn input'' held line empty input''' next → So places input first input''' next
  unfolding Comes Goes
  so_on {input''} {input'''} {held} {line} {empty} {next} g r = record {
    seen = s.seen ++ r.more;
    on = record { met = s.on.met ++ g.2.met; is = further };
    only = λ e. cc ((s.only e).1, g.1);
  }
    where
      shift : (a b c d : List ℕ) → (a ++ (b ++ c)) ++ d ≡ (a ++ b) ++ (c ++ d)
      shift a b c d = ap (λ (l : List ℕ). l ++ d) (sym (append_assoc a b c)) ∙ append_assoc (a ++ b) c d

      further : (later : List ℕ)
          → walk places first.line first.empty (lines_of ((inside first input ++ (s.seen ++ r.more)) ++ later))
          ≡ having (s.on.met ++ g.2.met) (walk places next.line next.empty (lines_of (inside next input''' ++ later)))
      further later =
          ap (λ (l : List ℕ). walk places first.line first.empty (lines_of l)) (shift (inside first input) s.seen r.more later)
          ∙ s.on.is (r.more ++ later)
          ∙ ap (having s.on.met) (g.2.is (r.more ++ later))
          ∙ sym (having-both s.on.met g.2.met _)
          ∙ rw (r.same_line, r.same_empty, r.bytes, append_assoc (take held input'') r.more later)

  pub so_failed : RowsRead places input first (Err Stop.Failed)
  unfolding Says
  so_failed = record { more = s.seen; only = λ f. (s.only f).0; says = tt }

-- ---- the first line, and those behind it

module _ (input : List ℕ) (reading : Reading) (first : First) (f : FirstRead (take reading.size input) reading.rest first) where
  pub header_refused : (wrong : Wrong) → first.columns ≡ Err wrong → FileRead (Err (Stop.Refused (in_line 1 wrong)))
  unfolding Says
  header_refused wrong g = record { file = take reading.size input ++ []; says = λ n. f.is_wrong wrong g n [] (λ _. refl) }

  pub header_read : (columns : Columns) → first.columns ≡ Ok columns → reading.line ≡ 2 → reading.empty ≡ None → (read : Result ℕ Stop)
      → RowsRead (take columns.count columns.places) input
      (record { from = first.from; size = reading.size; rest = reading.rest; line = reading.line; empty = reading.empty }) read → FileRead read
  header_read columns g line empty read r = record {
    file = take reading.size input ++ r.more;
    says =
        subst (λ (i : Imported). Says i read) (sym (f.named columns g r.more r.only))
        (rw (line, empty) at r.says);
  }
