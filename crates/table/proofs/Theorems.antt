-- The theorems of specs/Theorems on names, on what is written, and on empty lines. Assumes nothing.
use Rattle.std.specs.Prelude.{Ok}
use Prim.Native.Nat.{ℕ, zero, suc, ◌<◌}
use native.Mathlib.Omega.{arith}
use mathlib.Core.Bool.{true, false, true≢false}
use mathlib.Core.List.{List, [], ◌∷◌, ◌++◌, append_assoc}
use mathlib.Core.Path.{◌≡◌, refl, sym, ap, ◌∙◌}
use borrow.Author.Tests.{ne_eqb}
use lib.ListN.{length, get_or, replicate, length-map, get_or-replicate}
use Rattle.plain.specs.Lists.{Each}
use Rattle.rulebook.specs.Record.{write_refusal}
use Rattle.rulebook.specs.declared.Order.{Order}
use Rattle.rulebook.proofs.RoundTrips.{write_read}
use Rattle.names.specs.Numbers.{field_place}
use Rattle.cells.specs.Cells.{cells, trim, is_empty, leading, full_lines}
use Rattle.table.specs.Header.{header_of}
use Rattle.table.specs.Lines.{Imported}
use Rattle.table.specs.Lines.Imported.{refused_as, orders}
use Rattle.table.specs.Import.{import_lines, import_of, written, is_refused}
use Rattle.table.specs.Theorems.{field_at, Says, Along, NamedFields, UnknownRefused, NothingWritten, EmptyEnd, EmptyRefused}
use Rattle.table.specs.Theorems.Along.{one}
use Rattle.table.proofs.Places.{times, at_place}
use Rattle.table.proofs.Meaning.{placed, place-most, placed_most, header_columned, Taken, kept, numbers, as_many, field_back}
use Rattle.table.proofs.Meaning.{imported, refused-unless, along_so}

-- ---- (a)

placed_at : (names : List (List ℕ)) (i : ℕ) → i < length names → get_or (placed names) i 0 ≡ field_place (trim (get_or names i []))
unfolding placed
placed_at [] i h = absurd (omega arith)
placed_at (name ∷ names) zero h = refl
placed_at (name ∷ names) (suc i) h = placed_at names i (omega arith)

placed_none : (place : ℕ) (names : List (List ℕ)) → ((i : ℕ) → i < length names → field_place (trim (get_or names i [])) ≡ place → ⊥)
    → times place (placed names) ≡ 0
unfolding placed
placed_none place [] h = refl
placed_none place (name ∷ names) h =
    rw (ne_eqb place (field_place (trim name)) (λ e. h 0 (omega arith) (sym e))) (omega (arith, placed_none place names (λ i l. h (suc i) (omega arith))))

module _ (header places : List ℕ) (h : header_of header ≡ Ok places) where
  many : length places ≡ length (cells header)
  unfolding placed
  many = ap length (header_columned header places h).1 ∙ length-map (cells header) (λ name. field_place (trim name))

  at_column : (i : ℕ) → i < length (cells header) → get_or places i 0 ≡ field_at header i
  at_column i l = ap (λ (ps : List ℕ). get_or ps i 0) (header_columned header places h).1 ∙ placed_at (cells header) i l

  -- which is a field
  at_field : (i : ℕ) → i < length (cells header) → field_at header i < 18
  at_field i l =
      let there : 0 < times (field_at header i) places = rw (at_column i l) at (at_place places i (omega (arith, many))) in
      let other : field_at header i ≡ 18 → ⊥ =
      λ s. omega (arith, ap (λ (n : ℕ). times n places) s, (header_columned header places h).2.apart.known) in
      omega (arith, place-most (trim (get_or (cells header) i [])), other)

  says : (line : List ℕ) (order : Order) → Taken places line order → Says header line order
  unfolding write_refusal
  says line order t =
      let fit = (header_columned header places h).2 in
      let inside : Each (λ p. p < 19) places = rw (header_columned header places h).1 (placed_most (cells header)) in
      record {
        as_many = as_many t.read ∙ many;
        named = λ i l.
            rw (← t.same, field_back t.values (field_at header i) (at_field i l), ← at_column i l)
            (numbers t.read fit.apart.once inside i (omega (arith, many)));
        other = λ place l n.
            rw (← t.same, field_back t.values place l)
            (kept t.read place (rw (header_columned header places h).1 (placed_none place (cells header) n)) ∙ get_or-replicate 19 place 0 0 (omega arith));
        back = write_read order (replicate 40 0) t.tests;
      }

pub named_fields : NamedFields
unfolding NamedFields import_of
named_fields file header others all l e =
    let t = imported header others all (rw l at e) in
    along_so (says header t.places t.columns) t.taken_in

-- ---- (b), (e)

pub unknown_refused : UnknownRefused
unfolding UnknownRefused import_of
unknown_refused file header others column l h u = rw l (refused-unless (import_lines (header ∷ others)) known)
  where
    known : (all : List Order) → import_lines (header ∷ others) ≡ orders all → ⊥
    known all e = let t = imported header others all e in omega (arith, at_field header t.places t.columns column h)

pub nothing_written : NothingWritten
unfolding NothingWritten is_refused written
nothing_written file e = go (import_of file) e
  where
    go : (i : Imported) → is_refused i ≡ true → written i ≡ []
    go (refused_as why) e = refl
    go (orders all) e = cc

-- ---- (f), (g)

full-end : (lines : List (List ℕ)) (line : List ℕ) → is_empty line ≡ true → full_lines (lines ++ (line ∷ [])) ≡ full_lines lines
unfolding full_lines leading
full-end [] line e = simp e
full-end (first ∷ lines) line e = ap (leading first) (full-end lines line e)

pub empty_end : EmptyEnd
unfolding EmptyEnd import_lines
empty_end header lines line e = rw (full-end lines line e)

-- a line that is not empty is left, and those before it are
pub leading-full : (line : List ℕ) (lines : List (List ℕ)) → is_empty line ≡ false → leading line lines ≡ line ∷ lines
unfolding leading
leading-full line [] e = simp e
leading-full line (next ∷ lines) e = refl

pub full-later : (later : List ℕ) (others : List (List ℕ)) → is_empty later ≡ false → full_lines (later ∷ others) ≡ later ∷ full_lines others
unfolding full_lines
full-later later others e = leading-full later (full_lines others) e

full-before : (lines : List (List ℕ)) (later : List ℕ) (others : List (List ℕ)) → is_empty later ≡ false
    → full_lines (lines ++ (later ∷ others)) ≡ lines ++ (later ∷ full_lines others)
unfolding full_lines
full-before [] later others e = full-later later others e
full-before (first ∷ lines) later others e = ap (leading first) (full-before lines later others e) ∙ go lines
  where
    go : (lines : List (List ℕ)) → leading first (lines ++ (later ∷ full_lines others)) ≡ first ∷ (lines ++ (later ∷ full_lines others))
    go [] = unfold leading in refl
    go (next ∷ lines) = unfold leading in refl

-- no accepted line is empty
not_among : {places : List ℕ} (lines : List (List ℕ)) (line : List ℕ) (others : List (List ℕ)) {all : List Order} → is_empty line ≡ true
    → Along (Taken places) (lines ++ (line ∷ others)) all → ⊥
not_among [] line others e (one t r) = true≢false (sym e ∙ t.full)
not_among (first ∷ lines) line others e (one t r) = not_among lines line others e r

pub empty_refused : EmptyRefused
unfolding EmptyRefused
empty_refused header lines others line later e f = refused-unless (import_lines (header ∷ lines ++ (line ∷ later ∷ others))) none_taken
  where
    none_taken : (all : List Order) → import_lines (header ∷ lines ++ (line ∷ later ∷ others)) ≡ orders all → ⊥
    none_taken all i =
        let t = imported header (lines ++ (line ∷ later ∷ others)) all i in
        let split : lines ++ (line ∷ later ∷ others) ≡ (lines ++ (line ∷ [])) ++ (later ∷ others) = sym (append_assoc lines (line ∷ []) (later ∷ others)) in
        let left : full_lines (lines ++ (line ∷ later ∷ others)) ≡ lines ++ (line ∷ later ∷ full_lines others) =
        rw split (full-before (lines ++ (line ∷ [])) later others f ∙ append_assoc lines (line ∷ []) (later ∷ full_lines others)) in
        not_among lines line (later ∷ full_lines others) e (rw left at t.taken_in)
