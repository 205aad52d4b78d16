-- A table of names: what stands at a place is the name at that place, no name is long, and a name is found at its place. Assumes nothing.
use Prim.Native.Nat.{ℕ, zero, suc, ◌+◌, ◌≤◌, ◌<◌}
use Prim.Native.String.{String}
use native.Mathlib.Omega.{arith}
use native.Mathlib.Numerals.{add-one}
use mathlib.Core.Bool.{Bool, true, false, ◌||◌, true≢false}
use mathlib.Core.List.{List, [], ◌∷◌, map}
use mathlib.Core.Path.{◌≡◌, refl, sym, ap, ◌∙◌}
use Rattle.std.specs.Prelude.{if◌then◌else◌}
use borrow.Author.Tests.{ltb-false, lt-ltb, le-ltb}
use lib.ListN.{length, get_or, get_or-map, length-map}
use Rattle.std.specs.Cmp.Lexicographic.{pointwise}
use Rattle.std.specs.List.{AllWithin, HoldsAt}
use Rattle.std.specs.Option.{MatchOption, unwrap_or}
use Rattle.std.specs.declared.option.Option.{Option}
use Rattle.std.specs.declared.option.Option.TheVariants.{None, Some}
use Rattle.std.proofs.lemmas.Iterator.{index_from_first}
use denote.Bor.{Bor}
use lib.Dec.{eqb}
use Rattle.plain.specs.Lists.{some, ◌below◌, ◌one_of◌}
use Rattle.rulebook.specs.TypeTable.{type_table, type_row}
use Rattle.rulebook.specs.Forms.{forms, no_row, row_of}
use Rattle.rulebook.specs.Names.{field_names, name_from1, form_name, type_name}
use Rattle.rulebook.proofs.TypeTable.{numbers, no_row_in}
use Rattle.text.specs.Text.{text}
use Rattle.text.specs.Parts.{Short, place_in}
use Rattle.text.proofs.Cutting.{same-text}
use Rattle.names.specs.Numbers.{field_place, form_number}

-- no part is above 80 bytes where none passes the test
abbrev long : List ℕ → Bool
long part = 80 below length part

each_short : (parts : List (List ℕ)) → some long parts ≡ false → (place : ℕ) → length (get_or parts place []) ≤ 80
each_short [] e place = omega arith
each_short (part ∷ parts) e place = go (long part) refl e (each_short parts) place
  where
    go : (t : Bool) → long part ≡ t → (t || some long parts) ≡ false → (some long parts ≡ false → (place : ℕ) → length (get_or parts place []) ≤ 80)
        → (place : ℕ) → length (get_or (part ∷ parts) place []) ≤ 80
    go true s h later place = absurd (true≢false h)
    go false s h later zero = ltb-false 80 (length part) s
    go false s h later (suc place) = later h place

module _ (names : List String) (parts : List (List ℕ)) (e : parts ≡ map text names) where
  pub short : some long (map text names) ≡ false → Short parts
  short none = record { each = rw e (each_short (map text names) none) }

  -- counted from 0
  pub named_at : (place : ℕ) → get_or parts place [] ≡ text (get_or names place "")
  named_at place = rw e (get_or-map text names place "")

  -- counted from 1
  pub named : (number : ℕ) → get_or ([] ∷ parts) number [] ≡ text (name_from1 names number)
  unfolding name_from1
  named zero = refl
  named (suc number) = named_at number

-- the forms' names are those of their rows
pub form-named : (form : ℕ) → name_from1 (map (λ row. row.name) forms) form ≡ form_name form
unfolding name_from1 row_of
form-named zero = refl
form-named (suc n) = get_or-map (λ row. row.name) forms n no_row

pub no_type : (t : ℕ) → (t one_of numbers type_table) ≡ false → "" ≡ type_name t
unfolding type_row
no_type t n = sym (ap (λ row. row.name) (no_row_in type_table t n))

-- ---- the place of a name in a table

module _ (name : List ℕ) where
  abbrev IsPlace : List (Bor (List ℕ)) → Option ℕ → Type 0
  IsPlace table r =
      MatchOption r (AllWithin (λ known. pointwise eqb name known.now ≡ false) table 0 (length table))
      (λ i. (i < length table) × HoldsAt (λ known. pointwise eqb name known.now ≡ true) table i
      × AllWithin (λ known. pointwise eqb name known.now ≡ false) table 0 i)

  pub place-is : (table : List (Bor (List ℕ))) (r : Option ℕ) → IsPlace table r → place_in (map (λ known. known.now) table) name ≡ unwrap_or r (length table)
  unfolding place_in
  place-is =
      index_from_first (λ table. place_in (map (λ known. known.now) table) name) (λ known. pointwise eqb name known.now ≡ true)
      (λ known. pointwise eqb name known.now ≡ false) refl (λ known others e. simp (same-text, e)) (λ known others e. simp (same-text, e, add-one))

  -- in a table of so many names
  placed :
      (table : List (Bor (List ℕ))) (r : Option ℕ) (names : List (List ℕ)) (many : ℕ) → map (λ known. known.now) table ≡ names → length names ≡ many
      → IsPlace table r → MatchOption r (place_in names name ≡ many) (λ place. (place < many) × (place ≡ place_in names name))
  placed table r names many e l f = go r f (ap (λ known. place_in known name) (sym e) ∙ place-is table r f)
    where
      long : length table ≡ many
      long = sym (length-map table (λ known. known.now)) ∙ ap length e ∙ l

      go : (r : Option ℕ) → IsPlace table r → place_in names name ≡ unwrap_or r (length table)
          → MatchOption r (place_in names name ≡ many) (λ place. (place < many) × (place ≡ place_in names name))
      go None f p = p ∙ long
      go (Some place) f p = (omega (arith, f.0, long), sym p)

  -- a field's place
  pub field_placed :
      (table : List (Bor (List ℕ))) (r : Option ℕ) → map (λ known. known.now) table ≡ map text field_names → IsPlace table r
      → MatchOption r (18 ≤ field_place name) (λ place. (place < 18) × (place ≡ field_place name))
  unfolding field_place field_names
  field_placed table r e f = go r (placed table r (map text field_names) 18 e refl f)
    where
      go : (r : Option ℕ)
          → MatchOption r (place_in (map text field_names) name ≡ 18) (λ place. (place < 18) × (place ≡ place_in (map text field_names) name))
          → MatchOption r (18 ≤ place_in (map text field_names) name) (λ place. (place < 18) × (place ≡ place_in (map text field_names) name))
      go None p = omega arith
      go (Some place) p = p

  -- a form's number
  pub form_numbered :
      (table : List (Bor (List ℕ))) (r : Option ℕ) → map (λ known. known.now) table ≡ map (λ form. text form.name) forms → IsPlace table r
      → MatchOption r (form_number name ≡ 0) (λ place. place + 1 ≡ form_number name)
  unfolding form_number forms
  form_numbered table r e f = go r (placed table r (map (λ form. text form.name) forms) 21 e refl f)
    where
      at : ℕ
      at = place_in (map (λ form. text form.name) forms) name

      go : (r : Option ℕ) → MatchOption r (at ≡ 21) (λ place. (place < 21) × (place ≡ at))
          → MatchOption r ((if at below 21 then suc at else 0) ≡ 0) (λ place. place + 1 ≡ (if at below 21 then suc at else 0))
      go None p = rw (le-ltb at 21 (omega arith))
      go (Some place) p = rw (lt-ltb at 21 (omega arith)) (rw add-one (ap suc p.1))
