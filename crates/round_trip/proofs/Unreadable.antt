-- A table with a line of a record that does not read is refused. Assumes nothing.
use Rattle.std.specs.Prelude.{if◌then◌else◌, Ok, Err}
use Prim.Native.Nat.{ℕ, suc, ◌-◌, ◌≤◌, ◌<◌}
use native.Mathlib.Omega.{arith}
use lib.Dec.{lit≤}
use lib.ListN.{length, replicate}
use mathlib.Core.Bool.{Bool, true, false, false≢true}
use mathlib.Core.List.{List, [], ◌∷◌, ◌++◌, append_assoc}
use mathlib.Core.Path.{◌≡◌, refl, sym, ap, ◌∙◌}
use Rattle.plain.specs.Lists.{◌is◌, ◌is_not◌, some, first}
use Rattle.plain.proofs.Lists.{each_none}
use Rattle.rulebook.specs.Names.{field_names, refusal_names, name_from1}
use Rattle.rulebook.specs.Record.{no_form, unused_not_zero, used_out_of_range, fields_of, fields_in, order_of, field_tests, read_of, read_number, read_refusal, write_refusal}
use Rattle.rulebook.specs.declared.Order.{Order}
use Rattle.rulebook.specs.Answers.{Read, number_of, number_in}
use Rattle.rulebook.specs.declared.Refusal.{Refusal}
use Rattle.rulebook.proofs.Answers.{refusal-back, read-number}
use Rattle.rulebook.proofs.Below.{tabled, same_below}
use Rattle.rulebook.proofs.RoundTrips.{read_writable}
use Rattle.text.specs.Text.{decimal, digits}
use Rattle.text.specs.Parts.{line_feed, split, joined, join, same_text, place_in}
use Rattle.names.specs.Numbers.{form_number}
use Rattle.rulebook.specs.Forms.{forms}
use Rattle.file.specs.Records as File
use Rattle.cells.specs.declared.kind.Kind.TheVariants.{UnknownForm}
use Rattle.cells.specs.Cells.{comma, lines_of, front, back, before, trim, is_empty, strange, full_lines}
use Rattle.wording.specs.Fill.{is_sign, said, part, left, fill, line}
use Rattle.table.specs.Lines.{form_in, field_number, with_number, fields_from, line_fields, ordered, row_of}
use Rattle.table.specs.Lines.Imported.{orders}
use Rattle.table.specs.Import.{import_of, import_lines, mark, unmarked}
use Rattle.table.specs.Export.{name_cells, order_cells}
use Rattle.table.specs.Theorems.{Along}
use Rattle.table.specs.Theorems.Along.{one}
use Rattle.table.specs.Header.{refused}
use Rattle.table.proofs.Meaning.{Taken, taken_so, imported, refused-unless}
use Rattle.table.proofs.Theorems.{full-later}
use Rattle.table.proofs.Exporting.{every, Without, line_first, order-no_end, order-full, names-plain, header_line}
use Rattle.table_lines.specs.Exported.{name_line, read_line, record_lines, exported}
use Rattle.round_trip.specs.RoundTrips.{SomeUnreadable, UnreadableRefused}
use Rattle.round_trip.specs.RoundTrips.SomeUnreadable.{here, later}
use Rattle.round_trip.proofs.Tables.{names_same, order_same}

-- what stands in the line of a record that does not read
abbrev words : ℕ → List ℕ
words number = line "unreadable: refused by # (!)" (number ∷ number ∷ [])

-- it is refused by 2 to 5, and what is computed for each of them holds of it
module _ (octets : List ℕ) (refusal : Refusal) (e : read_of octets ≡ Err refusal) where
  abbrev number : ℕ
  number = number_of refusal

  unread : (2 ≤ number) × (number < 6)
  unfolding read_number read_refusal
  unread =
      go (length octets is_not 40) (no_form (fields_in octets)) (unused_not_zero (fields_in octets)) (used_out_of_range (fields_in octets))
      (sym (ap number_in e) ∙ read-number octets)
    where
      go : (a b c d : Bool) → number ≡ first ((2, a) ∷ (3, b) ∷ (4, c) ∷ (5, d) ∷ []) → (2 ≤ number) × (number < 6)
      go true b c d e = (omega arith, omega arith)
      go false true c d e = (omega arith, omega arith)
      go false false true d e = (omega arith, omega arith)
      go false false false true e = (omega arith, omega arith)
      go false false false false e =
          let z : (number is 0) ≡ false = (refusal-back refusal).1 in
          let t : (number is 0) ≡ true = rw e in
          absurd (false≢true (sym z ∙ t))

  by_refusal : {A : Type 0} (f g : ℕ → A) → tabled 4 (λ k. f (suc (suc k))) ≡ tabled 4 (λ k. g (suc (suc k))) → f number ≡ g number
  by_refusal f g same =
      let n : suc (suc (number - 2)) ≡ number = omega (arith, unread.0) in
      rw n at (same_below 4 (λ k. f (suc (suc k))) (λ k. g (suc (suc k))) same (number - 2) (omega (arith, unread.0, unread.1)))

  line-ends : line "unreadable: refused by # (!)\n" (number ∷ number ∷ []) ≡ words number ++ (line_feed ∷ [])
  unfolding fill part left is_sign said refusal_names name_from1 decimal digits
  line-ends = by_refusal (λ n. line "unreadable: refused by # (!)\n" (n ∷ n ∷ [])) (λ n. words n ++ (line_feed ∷ [])) refl

  no_end : Without line_feed (words number)
  unfolding fill part left is_sign said refusal_names name_from1 decimal digits
  no_end = each_none (λ b. b is line_feed) (words number) (by_refusal (λ n. some (λ b. b is line_feed) (words n)) (λ n. false) refl)

  not_empty : is_empty (words number) ≡ false
  unfolding fill part left is_sign said refusal_names name_from1 decimal digits is_empty front
  not_empty = by_refusal (λ n. is_empty (words n)) (λ n. false) refl

  is_no_form : row_of every (words number) ≡ refused UnknownForm 1 0
  unfolding fill part left is_sign said refusal_names name_from1 decimal digits row_of ordered line_fields is_empty front split joined fields_from
      with_number field_number form_in trim back before form_number place_in same_text forms strange
  is_no_form = by_refusal (λ n. row_of every (words n)) (λ n. refused UnknownForm 1 0) refl

  no_order : {order : Order} → Taken every (words number) order → ⊥
  no_order t = let told = sym is_no_form ∙ taken_so t in cc

-- ---- lines, one after the other

one_line : (text rest : List ℕ) → Without line_feed text → is_empty text ≡ false
    → full_lines (lines_of (text ++ (line_feed ∷ rest))) ≡ text ∷ full_lines (lines_of rest)
one_line text rest no-feed full = ap full_lines (line_first text rest no-feed) ∙ full-later text (lines_of rest) full

module _ (octets : List ℕ) (records : List (List ℕ)) where
  -- the line of a record, and those behind it
  abbrev Line : List ℕ → Type 0
  Line text = full_lines (lines_of (record_lines (octets ∷ records))) ≡ text ∷ full_lines (lines_of (record_lines records))

  unread_line : (refusal : Refusal) → read_of octets ≡ Err refusal → Line (words (number_of refusal))
  unfolding record_lines read_line
  unread_line refusal e =
      rw (e, line-ends octets refusal e, append_assoc (words (number_of refusal)) (line_feed ∷ []) (record_lines records))
      (one_line (words (number_of refusal)) (record_lines records) (no_end octets refusal e) (not_empty octets refusal e))

  read_line_lem : (order : Order) → read_of octets ≡ Ok order → Line (join comma (order_cells order))
  unfolding record_lines read_line write_refusal
  read_line_lem order e =
      let t : first (field_tests (fields_of order)) ≡ 0 = read_writable octets order (replicate 40 0) e (lit≤ tt) in
      rw (e, order_same order, append_assoc (join comma (order_cells order)) (line_feed ∷ []) (record_lines records))
      (one_line (join comma (order_cells order)) (record_lines records) (order-no_end order t) (order-full order t))

  -- whatever line it is, those behind it were taken too
  behind : {all : List Order} → Along (Taken every) (full_lines (lines_of (record_lines (octets ∷ records)))) all
      → ((others : List Order) → Along (Taken every) (full_lines (lines_of (record_lines records))) others → ⊥) → ⊥
  behind a none_taken = go (read_of octets) refl
    where
      past : (text : List ℕ) → Line text → ⊥
      past text e = first_off (rw e at a)
        where
          first_off : {all : List Order} → Along (Taken every) (text ∷ full_lines (lines_of (record_lines records))) all → ⊥
          first_off (one t r) = none_taken _ r

      go : (answer : Read) → read_of octets ≡ answer → ⊥
      go (Ok order) e = past _ (read_line_lem order e)
      go (Err refusal) e = past _ (unread_line refusal e)

not_taken : {records : List (List ℕ)} → SomeUnreadable records → (all : List Order) → Along (Taken every) (full_lines (lines_of (record_lines records))) all → ⊥
not_taken (here {octets} {records} refusal e) all a = go (rw (unread_line octets records refusal e) at a)
  where
    go : {all : List Order} → Along (Taken every) (words (number_of refusal) ∷ full_lines (lines_of (record_lines records))) all → ⊥
    go (one t r) = no_order octets refusal e t
not_taken (later {octets} {records} some) all a = behind octets records a (not_taken some)

unmarked-table : (records : List (List ℕ)) → unmarked (name_line ++ record_lines records) ≡ name_line ++ record_lines records
unfolding unmarked name_line join field_names mark same_text
unmarked-table records = refl

pub unreadable_refused_lem : UnreadableRefused
unfolding UnreadableRefused exported import_of
unreadable_refused_lem file some =
    let records = File.records_of file in
    let lines : lines_of (name_line ++ record_lines records) ≡ join comma name_cells ∷ lines_of (record_lines records) =
    ap lines_of (rw names_same (append_assoc (join comma name_cells) (line_feed ∷ []) (record_lines records)))
    ∙ line_first (join comma name_cells) (record_lines records) names-plain
    in
    rw (unmarked-table records, lines) (refused-unless (import_lines (join comma name_cells ∷ lines_of (record_lines records))) none_imported)
  where
    none_imported : (all : List Order) → import_lines (join comma name_cells ∷ lines_of (record_lines (File.records_of file))) ≡ orders all → ⊥
    none_imported all e =
        let t = imported (join comma name_cells) (lines_of (record_lines (File.records_of file))) all e in
        let header = sym t.columns ∙ header_line in
        let same : t.places ≡ every = cc in
        not_taken some all (rw same at t.taken_in)
