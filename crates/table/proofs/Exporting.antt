-- The table of some orders imports as these orders. Assumes nothing.
use Rattle.std.specs.Prelude.{if◌then◌else◌, Result, Ok}
use Prim.Native.Nat.{ℕ, zero, suc, ◌+◌, ◌-◌, ◌*◌, ◌%◌, ◌^◌, ◌≤◌, ◌<◌}
use native.Mathlib.Omega.{arith}
use mathlib.Core.Bool.{Bool, true, false}
use mathlib.Core.List.{List, [], ◌∷◌, ◌++◌, map, append-nil}
use mathlib.Core.Path.{◌≡◌, refl, sym, ap, ◌∙◌}
use borrow.Author.Tests.{ne_eqb, lt-ltb, ltb-false, le-leb, leb-true, not-false}
use lib.Dec.{eqb, leb}
use lib.ListN.{length, set, replicate, take, drop, length-append}
use lib.Pow.{pow_mono}
use Rattle.bits.specs.Layout.{Fit}
use Rattle.plain.specs.Lists.{◌is◌, ◌below◌, some, Each, first}
use Rattle.plain.proofs.Tests.{both}
use Rattle.plain.proofs.Lists.{each_none, each_so, each_append}
use Rattle.rulebook.specs.Field.{widths}
use Rattle.rulebook.specs.Forms.{forms, row_of as form_row}
use Rattle.rulebook.specs.Names.{field_names, form_name}
use Rattle.rulebook.specs.Record.{fields_of, order_of, record_of, read_of, field_tests, no_form, unused_not_zero, used_out_of_range, write_refusal}
use Rattle.rulebook.specs.declared.Order.{Order}
use Rattle.rulebook.proofs.Below.{tabled, same_below}
use Rattle.rulebook.proofs.RoundTrips.{write_read}
use Rattle.field_rules.specs.Fields.{fields_refusal}
use Rattle.record.proofs.Answers.{write_fits}
use Rattle.text.specs.Text.{text, decimal, digit}
use Rattle.text.specs.Parts.{line_feed, joined, split, join, same_text, place_in}
use Rattle.text.proofs.Digits.{of-decimal, read, decimal-read}
use Rattle.names.specs.Numbers.{field_place, form_number}
use Rattle.cells.specs.declared.kind.Kind.TheVariants.{NotANumber}
use Rattle.cells.specs.Cells.{strange, comma, lines_of, cells, blank, front, before, back, trim, is_empty, full_lines, read_on, number_in}
use Rattle.cells.specs.declared.kind.Kind.{Kind}
use Rattle.table.specs.Header.{header_from, header_of}
use Rattle.table.specs.Lines.{form_in, optional_in, field_number}
use Rattle.table.specs.Lines.Imported.{orders}
use Rattle.table.specs.Import.{mark, unmarked, import_lines, import_of}
use Rattle.table.specs.Export.{name_cells, order_cells, order_lines, table_of, Writable}
use Rattle.table.specs.Theorems.{Along, ExportImports, ImportExports}
use Rattle.table.specs.Theorems.Along.{none, one}
use Rattle.table.proofs.Meaning.{Fills, no_more, one_more, Taken, imported, imported_so, none_such}
use Rattle.table.proofs.AnyOrder.{empty_alone}
use Rattle.table.proofs.Theorems.{full-later}

-- ---- bytes that do not stand in a text

-- no byte of it is this mark
abbrev pub Without : (mark : ℕ) → List ℕ → Type 0
Without mark bytes = Each (λ b. (b is mark) ≡ false) bytes

-- a text before a mark is a part by itself, where other bytes are put before the first part
part-first :
    (cut : List ℕ → List (List ℕ)) (mark : ℕ) → ((b : ℕ) (l : List ℕ) → (b is mark) ≡ false → cut (b ∷ l) ≡ joined b (cut l))
    → (part rest : List ℕ) (parts : List (List ℕ)) → Without mark part → cut rest ≡ [] ∷ parts → cut (part ++ rest) ≡ part ∷ parts
unfolding joined
part-first cut mark on [] rest parts w e = e
part-first cut mark on (b ∷ part) rest parts w e = on b (part ++ rest) w.0 ∙ rw (part-first cut mark on part rest parts w.1 e)

cut_on : (b : ℕ) (l : List ℕ) → (b is comma) ≡ false → cells (b ∷ l) ≡ joined b (cells l)
unfolding split
cut_on b l e = simp e

pub line_first : (line rest : List ℕ) → Without line_feed line → lines_of (line ++ (line_feed ∷ rest)) ≡ line ∷ lines_of rest
unfolding lines_of
line_first line rest w = part-first lines_of line_feed (λ b l e. simp e) line (line_feed ∷ rest) (lines_of rest) w refl

cells-join : (cell : List ℕ) (others : List (List ℕ)) → Each (Without comma) (cell ∷ others) → cells (join comma (cell ∷ others)) ≡ cell ∷ others
unfolding join split
cells-join cell [] w = ap cells (sym (append-nil cell)) ∙ part-first cells comma cut_on cell [] [] w.0 refl
cells-join cell (next ∷ others) w =
    part-first cells comma cut_on cell (comma ∷ join comma (next ∷ others)) (cells (join comma (next ∷ others))) w.0 refl
    ∙ ap (◌∷◌ cell) (cells-join next others w.1)

join-without : (mark : ℕ) → (comma is mark) ≡ false → (cs : List (List ℕ)) → Each (Without mark) cs → Without mark (join comma cs)
unfolding join
join-without mark e [] w = tt
join-without mark e (cell ∷ []) w = w.0
join-without mark e (cell ∷ next ∷ others) w = each_append _ cell _ w.0 (e, join-without mark e (next ∷ others) w.1)

-- ---- a number in digits

abbrev Digit : ℕ → Type 0
Digit b = (48 ≤ b) × (b ≤ 57)

digits-only : (n : ℕ) → Each Digit (decimal n)
digits-only = of-decimal (λ n l. Each Digit l) (λ n h. ((omega arith, omega arith), tt)) (λ n l h e. each_append Digit l _ e ((omega arith, omega arith), tt))

decimal-some : (n : ℕ) → length (decimal n) ≡ 0 → ⊥
decimal-some = of-decimal (λ n l. length l ≡ 0 → ⊥) (λ n h e. omega arith) (λ n l h e f. omega (arith, length-append l (digit (n % 10))))

no-mark : (mark : ℕ) → mark < 48 → (vs : List ℕ) → Each (Without mark) (map decimal vs)
no-mark mark h [] = tt
no-mark mark h (v ∷ vs) = (each_so Digit _ (λ b d. ne_eqb b mark (λ e. omega arith)) (decimal v) (digits-only v), no-mark mark h vs)

digit-full : (b : ℕ) → Digit b → blank b ≡ false
digit-full b d = simp (ne_eqb b 32 (λ e. omega arith), ne_eqb b 13 (λ e. omega arith), ne_eqb b 9 (λ e. omega arith))

trim_digits : (l : List ℕ) → Each Digit l → trim l ≡ l
unfolding trim front back before
trim_digits l e = ap back (front_same l e) ∙ back-same l e
  where
    front_same : (l : List ℕ) → Each Digit l → front l ≡ l
    front_same [] e = refl
    front_same (b ∷ l) e = simp (digit-full b e.0)

    before_same : (b : ℕ) (l : List ℕ) → Digit b → before b l ≡ b ∷ l
    before_same b [] d = simp (digit-full b d)
    before_same b (c ∷ l) d = refl

    back-same : (l : List ℕ) → Each Digit l → back l ≡ l
    back-same [] e = refl
    back-same (b ∷ l) e = ap (before b) (back-same l e.1) ∙ before_same b l e.0

read_grows : (n : ℕ) (l : List ℕ) → n ≤ read n l
read_grows n [] = omega arith
read_grows n (b ∷ l) = omega (arith, read_grows (n * 10 + (b - 48)) l)

read_digits : (kind : Kind) (n : ℕ) (l : List ℕ) → Each Digit l → read n l < 2 ^ 64 → read_on kind n l ≡ Ok (read n l)
unfolding read_on
read_digits kind n [] e h = refl
read_digits kind n (b ∷ l) e h =
    let small : n * 10 + (b - 48) < 2 ^ 64 = omega (arith, read_grows (n * 10 + (b - 48)) l) in
    simp (le-leb 48 b e.0.0, le-leb b 57 e.0.1, lt-ltb _ _ small) (read_digits kind (n * 10 + (b - 48)) l e.1 h)

-- a cell of digits says its number in any column but that of the form
cell_decimal : (p n : ℕ) → eqb p 0 ≡ false → n < 2 ^ 64 → field_number p (decimal n) ≡ Ok n
unfolding field_number optional_in number_in
cell_decimal p n z h =
    rw (trim_digits (decimal n) (digits-only n))
    (simp (z, ne_eqb (length (decimal n)) 0 (decimal-some n), value (strange NotANumber (decimal n))) (go (p is 1)))
  where
    value : (kind : Kind) → read_on kind 0 (decimal n) ≡ Ok n
    value kind = read_digits kind 0 (decimal n) (digits-only n) (rw (decimal-read n) h) ∙ ap Ok (decimal-read n)

    go : (t : Bool) → ◌≡◌ {A = Result ℕ Kind} (if t then Ok n else Ok n) (Ok n)
    go true = refl
    go false = refl

-- ---- the line of an order

abbrev set_all : List ℕ → List ℕ → List ℕ → List ℕ
set_all values [] vs = values
set_all values (p ∷ ps) [] = values
set_all values (p ∷ ps) (v ∷ vs) = set_all (set values p v) ps vs

fields_decimal : (ps values vs : List ℕ) → length ps ≡ length vs → Without 0 ps → Each (λ v. v < 2 ^ 64) vs
    → Fills ps values (map decimal vs) (set_all values ps vs)
fields_decimal [] values [] l z s = no_more
fields_decimal [] values (v ∷ vs) l z s = absurd (omega arith)
fields_decimal (p ∷ ps) values [] l z s = absurd (omega arith)
fields_decimal (p ∷ ps) values (v ∷ vs) l z s =
    one_more (cell_decimal p v z.0 s.0) (fields_decimal ps (set values p v) vs (omega arith) z.1 s.1)

-- the places of the canonical table
abbrev behind_form : List ℕ
behind_form = 1 ∷ 2 ∷ 3 ∷ 4 ∷ 5 ∷ 6 ∷ 7 ∷ 8 ∷ 9 ∷ 10 ∷ 11 ∷ 12 ∷ 13 ∷ 14 ∷ 15 ∷ 16 ∷ 17 ∷ []

abbrev pub every : List ℕ
every = 0 ∷ behind_form

-- what fits at most 64 bits
small_fit : (n : ℕ) (ws vs : List ℕ) → Each (λ w. (64 below w) ≡ false) ws → Fit ws vs → Each (λ v. v < 2 ^ 64) (take n vs)
small_fit zero ws vs s f = tt
small_fit (suc n) [] [] s f = tt
small_fit (suc n) [] (v ∷ vs) s f = absurd f
small_fit (suc n) (w ∷ ws) [] s f = absurd f
small_fit (suc n) (w ∷ ws) (v ∷ vs) s f = (omega (arith, f.0, pow_mono (ltb-false 64 w s.0)), small_fit n ws vs s.1 f.1)

module _ (order : Order) (t : first (field_tests (fields_of order)) ≡ 0) where
  small_fields : Each (λ v. v < 2 ^ 64) (drop 1 (take 18 (fields_of order)))
  unfolding fields_refusal fields_of widths
  small_fields = (small_fit 18 widths (fields_of order) (each_none (λ w. 64 below w) widths refl) (write_fits order (sym t))).1

  -- the form is one of the table
  form-known : (1 ≤ order.form) × (order.form ≤ 21)
  unfolding no_form fields_of forms
  form-known =
      let n : no_form (fields_of order) ≡ false = none_first (no_form (fields_of order)) (unused_not_zero (fields_of order)) (used_out_of_range (fields_of order)) t in
      let w = both (leb 1 order.form) (leb order.form 21) (not-false _ n) in
      (leb-true 1 order.form w.0, leb-true order.form 21 w.1)
    where
      none_first : (a b c : Bool) → first ((3, a) ∷ (4, b) ∷ (5, c) ∷ []) ≡ 0 → a ≡ false
      none_first true b c h = cc
      none_first false b c h = refl

  -- so that what is computed for each row of the table holds of it
  by_number : {A : Type 0} (f g : ℕ → A) → tabled 21 (λ k. f (suc k)) ≡ tabled 21 (λ k. g (suc k)) → f order.form ≡ g order.form
  by_number f g e =
      let s : suc (order.form - 1) ≡ order.form = omega (arith, form-known.0) in
      rw s at (same_below 21 (λ k. f (suc k)) (λ k. g (suc k)) e (order.form - 1) (omega (arith, form-known.0, form-known.1)))

  cells-without : (mark : ℕ) → mark < 48 → some (λ b. b is mark) (text (form_name order.form)) ≡ false → Each (Without mark) (order_cells order)
  unfolding order_cells
  cells-without mark h e = (each_none (λ b. b is mark) (text (form_name order.form)) e, no-mark mark h (drop 1 (take 18 (fields_of order))))

  order-cells : cells (join comma (order_cells order)) ≡ order_cells order
  unfolding order_cells form_row forms
  order-cells = cells-join _ _ (cells-without comma (omega arith) (by_number (λ f. some (λ b. b is comma) (text (form_name f))) (λ f. false) refl))

  pub order-no_end : Without line_feed (join comma (order_cells order))
  unfolding form_row forms
  order-no_end =
      join-without line_feed refl (order_cells order)
      (cells-without line_feed (omega arith) (by_number (λ f. some (λ b. b is line_feed) (text (form_name f))) (λ f. false) refl))

  pub order-full : is_empty (join comma (order_cells order)) ≡ false
  order-full = empty_alone (join comma (order_cells order)) ∙ rw order-cells (unfold order_cells fields_of in refl)

  form-cell : field_number 0 (text (form_name order.form)) ≡ Ok order.form
  unfolding field_number form_in trim front back before form_number place_in same_text form_row forms
  form-cell = by_number (λ f. field_number 0 (text (form_name f))) Ok refl

  order-read : Fills every (replicate 19 0) (order_cells order) (fields_of order)
  unfolding order_cells fields_of
  order-read =
      one_more form-cell
      (fields_decimal behind_form (set (replicate 19 0) 0 order.form) (drop 1 (take 18 (fields_of order))) refl (each_none (λ p. p is 0) behind_form refl)
      small_fields)

  pub order-taken : Taken every (join comma (order_cells order)) order
  order-taken = record {
    full = order-full;
    values = fields_of order;
    read = rw order-cells order-read;
    same = unfold order_of fields_of in refl;
    tests = t;
  }

-- ---- the whole table

pub names-plain : Without line_feed (join comma name_cells)
unfolding join name_cells field_names
names-plain = each_none (λ b. b is line_feed) (join comma name_cells) refl

pub header_line : header_of (join comma name_cells) ≡ Ok every
unfolding join name_cells field_names header_of header_from is_empty split joined trim front back before field_place place_in same_text
header_line = refl

lines_taken : (all : List Order) → Writable all → Along (Taken every) (full_lines (lines_of (order_lines all))) all
unfolding Writable order_lines
lines_taken [] w = unfold lines_of full_lines in none
lines_taken (order ∷ others) w =
    let line : List ℕ = join comma (order_cells order) in
    rw (line_first line (order_lines others) (order-no_end order w.0), full-later line (lines_of (order_lines others)) (order-full order w.0))
    (one (order-taken order w.0) (lines_taken others w.1))

pub export_imports : ExportImports
unfolding ExportImports import_of table_of
export_imports all w =
    let same : unmarked (table_of all) ≡ table_of all = unfold unmarked table_of join name_cells field_names mark same_text in refl in
    rw (same, line_first (join comma name_cells) (order_lines all) names-plain)
    (imported_so (record { places = every; columns = header_line; taken_in = lines_taken all w }))

-- ---- and what a table says is such orders

lines_writable : {places : List ℕ} {lines : List (List ℕ)} {all : List Order} → Along (Taken places) lines all
    → Writable all × (map (λ order. read_of (record_of order)) all ≡ map Ok all)
unfolding Writable write_refusal
lines_writable none = (tt, refl)
lines_writable (one {b = order} t r) =
    let later = lines_writable r in
    ((t.tests, later.0), rw (write_read order (replicate 40 0) t.tests, later.1))

pub import_exports : ImportExports
unfolding ImportExports ExportImports import_of import_lines
import_exports file all e = go (lines_of (unmarked file)) e
  where
    go : (lines : List (List ℕ)) → import_lines lines ≡ orders all
        → Writable all × (map (λ order. read_of (record_of order)) all ≡ map Ok all) × (import_of (table_of all) ≡ orders all)
    go [] e = absurd (none_such e)
    go (header ∷ others) e = let w = lines_writable (imported header others all e).taken_in in (w.0, w.1, export_imports all w.0)
