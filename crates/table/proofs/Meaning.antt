-- What the columns of an accepted first line are, and what an accepted line puts into the fields. Assumes nothing.
use Rattle.std.specs.Prelude.{if◌then◌else◌, Result, Ok, Err}
use Prim.Native.Nat.{ℕ, zero, suc, ◌+◌, ◌≤◌, ◌<◌}
use native.Mathlib.Omega.{arith}
use mathlib.Core.Bool.{Bool, true, false, not}
use mathlib.Core.List.{List, [], ◌∷◌, ◌++◌, map, append_assoc, append-nil}
use mathlib.Core.Path.{◌≡◌, refl, sym, ap, ◌∙◌, subst}
use borrow.Author.Tests.{ne_eqb, eqb-false, eqb-true, leb-false, lt-leb, ltb-true, ltb-false, lt-ltb, le-ltb, not-false}
use lib.Dec.{eqb}
use lib.ListN.{length, get_or, set, replicate, length-append, length-set}
use lib.Seq.{get_or-set_same, get_or-set_other}
use Rattle.plain.specs.Lists.{◌is◌, ◌one_of◌, ◌at_most◌, first, Each}
use Rattle.plain.proofs.Lists.{total-append}
use Rattle.rulebook.specs.Field.{form, minute}
use Rattle.rulebook.specs.Names.{field_names}
use Rattle.rulebook.specs.Record.{fields_of, order_of, field_tests}
use Rattle.rulebook.specs.declared.Order.{Order}
use Rattle.rulebook.proofs.Below.{same_below}
use Rattle.text.specs.Text.{text}
use Rattle.text.specs.Parts.{same_text, place_in}
use Rattle.names.specs.Numbers.{field_place}
use Rattle.cells.specs.Cells.{cells, trim, is_empty, full_lines}
use Rattle.cells.specs.declared.kind.Kind.{Kind}
use Rattle.table.specs.Header.{Parsed, header_from, header_of}
use Rattle.table.specs.Lines.{field_number, with_number, fields_from, line_fields, ordered, row_of, Imported, more, with_row, rows_from}
use Rattle.table.specs.Lines.Imported.{refused_as, orders}
use Rattle.table.specs.Import.{with_columns, import_lines, is_refused}
use Rattle.table.specs.Theorems.{Along}
use Rattle.table.specs.Theorems.Along.{none, one}
use Rattle.table.specs.declared.Wrong.{Wrong}
use Rattle.table.specs.declared.Refused.{Refused}
use Rattle.table.proofs.Places.{times, one_of_times, apart, first_more}

-- ---- refused and accepted are two things

pub never : {wrong : Wrong} {out : List ℕ} → ◌≡◌ {A = Parsed} (Err wrong) (Ok out) → ⊥
never e = cc

pub none_such : {why : Refused} {all : List Order} → refused_as why ≡ orders all → ⊥
none_such e = cc

-- a test before all others
pub past : {out : List ℕ} (t : Bool) (wrong : Wrong) (r : Parsed) → (if t then Err wrong else r) ≡ Ok out → (t ≡ false) × (r ≡ Ok out)
past true wrong r e = absurd (never e)
past false wrong r e = (refl, e)

-- what is no list of orders is a refusal
pub refused-unless : (i : Imported) → ((all : List Order) → i ≡ orders all → ⊥) → is_refused i ≡ true
unfolding is_refused
refused-unless (refused_as why) n = refl
refused-unless (orders all) n = absurd (n all refl)

-- ---- two lists, place by place

module _ {A B C : Type 0} {R : A → B → Type 0} {S : A → C → Type 0} {T : B → C → Type 0} (f : (a : A) (b : B) (c : C) → R a b → S a c → T b c) where
  pub along_both : {xs : List A} {ys : List B} {zs : List C} → Along R xs ys → Along S xs zs → Along T ys zs
  along_both none none = none
  along_both (one {a} {b} r rs) (one {b = c} s ss) = one (f a b c r s) (along_both rs ss)

pub along_so : {A B : Type 0} {R S : A → B → Type 0} → ((a : A) (b : B) → R a b → S a b) → {xs : List A} {ys : List B} → Along R xs ys → Along S xs ys
along_so f none = none
along_so f (one {a} {b} r rs) = one (f a b r) (along_so f rs)

-- ---- the columns of an accepted first line

unfoldable pub placed : List (List ℕ) → List ℕ
placed names = map (λ name. field_place (trim name)) names

place-le : (names : List (List ℕ)) (name : List ℕ) → place_in names name ≤ length names
unfolding place_in
place-le [] name = omega arith
place-le (known ∷ others) name = go (same_text name known) (place-le others name)
  where
    go : (t : Bool) → place_in others name ≤ length others → (if t then 0 else suc (place_in others name)) ≤ suc (length others)
    go true h = omega arith
    go false h = omega arith

pub place-most : (name : List ℕ) → field_place name ≤ 18
unfolding field_place field_names
place-most name = place-le (map text field_names) name

pub placed_most : (names : List (List ℕ)) → Each (λ place. place < 19) (placed names)
unfolding placed
placed_most [] = tt
placed_most (name ∷ names) = (omega (arith, place-most (trim name)), placed_most names)

-- places that a first line may name so far
pub record Apart (places : List ℕ) : Type 0 where
  pub few : length places ≤ 18
  pub known : times 18 places ≡ 0
  pub once : (n : ℕ) → times n places ≤ 1

-- and with form and minute among them
pub record Fit (places : List ℕ) : Type 0 where
  pub apart : Apart places
  pub has_form : 0 < times form places
  pub has_minute : 0 < times minute places

once_more : (n p : ℕ) (ps : List ℕ) → Apart ps → times p ps ≡ 0 → times n (ps ++ (p ∷ [])) ≤ 1
once_more n p ps a e = rw (total-append (λ q. if n is q then 1 else 0) ps (p ∷ [])) (go (eqb n p) refl)
  where
    go : (t : Bool) → eqb n p ≡ t → times n ps + ((if t then 1 else 0) + 0) ≤ 1
    go true f = let same : times n ps ≡ times p ps = ap (λ (m : ℕ). times m ps) (eqb-true n p f) in omega arith
    go false f = omega (arith, a.once n)

-- they are those of the columns before and of the names, and so they fit
pub columned : (before : List ℕ) (names : List (List ℕ)) (out : List ℕ) → header_from before names ≡ Ok out → Apart before
    → (out ≡ before ++ placed names) × Fit out
unfolding header_from placed
columned before [] out e a =
    let f = past (not (form one_of before)) _ _ e in
    let m = past (not (minute one_of before)) _ _ f.1 in
    let same : before ≡ out = cc in
    let fit : Fit before = record {
      apart = a;
      has_form = ltb-true 0 _ (sym (one_of_times form before) ∙ not-false _ f.0);
      has_minute = ltb-true 0 _ (sym (one_of_times minute before) ∙ not-false _ m.0);
    } in
    (sym same ∙ sym (append-nil before), subst Fit same fit)
columned before (name ∷ names) out e a =
    let place : ℕ = field_place (trim name) in
    let s = past (18 at_most length before) _ _ e in
    let t = past (place is 18) _ _ s.1 in
    let u = past (place one_of before) _ _ t.1 in
    let new : times place before ≤ 0 = ltb-false 0 _ (sym (one_of_times place before) ∙ u.0) in
    let other : eqb 18 place ≡ false = ne_eqb 18 place (λ q. eqb-false place 18 t.0 (sym q)) in
    let wider : Apart (before ++ (place ∷ [])) = record {
      few = omega (arith, leb-false 18 (length before) s.0, length-append before (place ∷ []));
      known = rw (total-append (λ q. if 18 is q then 1 else 0) before (place ∷ []), other) (omega (arith, a.known));
      once = λ n. once_more n place before a (omega arith);
    } in
    let rest = columned (before ++ (place ∷ [])) names out u.1 wider in
    (rest.0 ∙ append_assoc before (place ∷ []) (placed names), rest.1)

-- and names whose places fit are accepted
pub named : (before : List ℕ) (names : List (List ℕ)) → Fit (before ++ placed names) → header_from before names ≡ Ok (before ++ placed names)
unfolding header_from placed
named before [] f =
    let e : before ++ [] ≡ before = append-nil before in
    let g : Fit before = subst Fit e f in
    simp (one_of_times form before ∙ lt-ltb 0 _ g.has_form, one_of_times minute before ∙ lt-ltb 0 _ g.has_minute, e)
named before (name ∷ names) f =
    let place : ℕ = field_place (trim name) in
    let e : (before ++ (place ∷ [])) ++ placed names ≡ before ++ (place ∷ placed names) = append_assoc before (place ∷ []) (placed names) in
    let both : (n : ℕ) → times n (before ++ (place ∷ placed names)) ≡ times n before + times n (place ∷ placed names) =
    λ n. total-append (λ q. if n is q then 1 else 0) before (place ∷ placed names) in
    let few : length before < 18 = omega (arith, f.apart.few, length-append before (place ∷ placed names)) in
    let known : place ≡ 18 → ⊥ = λ q. apart 18 place (placed names) (omega (arith, both 18, f.apart.known)) (sym q) in
    let new : times place before ≤ 0 = omega (arith, both place, f.apart.once place, first_more place (placed names)) in
    simp (lt-leb 18 (length before) few, ne_eqb place 18 known, one_of_times place before ∙ le-ltb 0 _ new)
    (named (before ++ (place ∷ [])) names (subst Fit (sym e) f) ∙ ap Ok e)

-- of the whole line
pub header_columned : (header places : List ℕ) → header_of header ≡ Ok places → (is_empty header ≡ false) × (places ≡ placed (cells header)) × Fit places
unfolding header_of
header_columned header places e =
    let p = past (is_empty header) _ _ e in
    let c = columned [] (cells header) places p.1 (record { few = omega arith; known = refl; once = λ n. omega arith }) in
    (p.0, c.0, c.1)

-- ---- the fields of an accepted line

-- cell by cell, each number goes into the field of its column
pub data Fills : (places values : List ℕ) → List (List ℕ) → List ℕ → Type 0 where
  no_more : {values : List ℕ} → Fills [] values [] values
  one_more : {p n : ℕ} {ps values out c : List ℕ} {cs : List (List ℕ)} → field_number p c ≡ Ok n → Fills ps (set values p n) cs out
      → Fills (p ∷ ps) values (c ∷ cs) out

pub fills : (ps : List ℕ) (column : ℕ) (values : List ℕ) (cs : List (List ℕ)) (out : List ℕ) → fields_from ps column values cs ≡ Ok out
    → Fills ps values cs out
unfolding fields_from with_number
fills [] column values [] out e = let same : values ≡ out = cc in subst (Fills [] values []) same no_more
fills [] column values (c ∷ cs) out e = absurd (never e)
fills (p ∷ ps) column values [] out e = absurd (never e)
fills (p ∷ ps) column values (c ∷ cs) out e = go (field_number p c) refl e (λ n. fills ps (column + 1) (set values p n) cs out)
  where
    go : (v : Result ℕ Kind) → field_number p c ≡ v → with_number v column p (λ n. fields_from ps (column + 1) (set values p n) cs) ≡ Ok out
        → ((n : ℕ) → fields_from ps (column + 1) (set values p n) cs ≡ Ok out → Fills ps (set values p n) cs out) → Fills (p ∷ ps) values (c ∷ cs) out
    go (Ok n) f e more = one_more f (more n e)
    go (Err kind) f e more = absurd (never e)

pub fills_so : {ps values : List ℕ} {cs : List (List ℕ)} {out : List ℕ} → Fills ps values cs out → (column : ℕ) → fields_from ps column values cs ≡ Ok out
unfolding fields_from with_number
fills_so no_more column = refl
fills_so (one_more f r) column = rw f (fills_so r (column + 1))

-- there are as many cells as columns
pub as_many : {ps values : List ℕ} {cs : List (List ℕ)} {out : List ℕ} → Fills ps values cs out → length cs ≡ length ps
as_many no_more = refl
as_many (one_more f r) = ap suc (as_many r)

-- a place that no column has keeps its value
pub kept : {ps values : List ℕ} {cs : List (List ℕ)} {out : List ℕ} → Fills ps values cs out → (place : ℕ) → times place ps ≡ 0
    → get_or out place 0 ≡ get_or values place 0
kept no_more place h = refl
kept (one_more {p} {n} {ps} {values} f r) place h = kept r place (omega arith) ∙ get_or-set_other values p place n 0 (apart place p ps h)

-- a column's place gets the number in its cell
pub numbers : {ps values : List ℕ} {cs : List (List ℕ)} {out : List ℕ} → Fills ps values cs out → ((n : ℕ) → times n ps ≤ 1)
    → Each (λ p. p < length values) ps → (i : ℕ) → i < length ps → field_number (get_or ps i 0) (get_or cs i []) ≡ Ok (get_or out (get_or ps i 0) 0)
numbers no_more once inside i h = absurd (omega arith)
numbers (one_more {p} {n} {ps} {values} f r) once inside zero h =
    rw (kept r p (omega (arith, once p, first_more p ps)), get_or-set_same values p n 0 inside.0) f
numbers (one_more {p} {n} {ps} {values} f r) once inside (suc i) h =
    numbers r (λ m. omega (arith, once m)) (rw (length-set values p n) inside.1) i (omega arith)

-- the fields of the order of some values are these
pub field_back : (values : List ℕ) (place : ℕ) → place < 18 → get_or (fields_of (order_of values)) place 0 ≡ get_or values place 0
unfolding fields_of order_of
field_back values = same_below 18 (λ place. get_or (fields_of (order_of values)) place 0) (λ place. get_or values place 0) refl

-- an accepted line: its values, and the order of these
pub record Taken (places line : List ℕ) (order : Order) : Type 0 where
  pub full : is_empty line ≡ false
  pub values : List ℕ
  pub read : Fills places (replicate 19 0) (cells line) values
  pub same : order_of values ≡ order
  pub tests : first (field_tests (fields_of order)) ≡ 0

pub taken : (places line : List ℕ) (order : Order) → row_of places line ≡ Ok order → Taken places line order
unfolding row_of line_fields ordered
taken places line order e = go (line_fields places line) refl e
  where
    tested : (values : List ℕ) (n : ℕ) (wrong : Wrong) (t : Bool) → eqb n 0 ≡ t
        → (if t then Ok (order_of values) else Err wrong) ≡ Ok order → (order_of values ≡ order) × (n ≡ 0)
    tested values n wrong true f e = (cc, eqb-true n 0 f)
    tested values n wrong false f e = (cc, cc)

    go : (r : Parsed) → line_fields places line ≡ r → ordered places r ≡ Ok order → Taken places line order
    go (Err wrong) f e = cc
    go (Ok values) f e =
        let p = past (is_empty line) _ _ f in
        let both = tested values (first (field_tests (fields_of (order_of values)))) _ _ refl e in
        record { full = p.0; values = values; read = fills places 1 _ _ values p.1; same = both.0; tests = rw both.0 at both.1 }

pub taken_so : {places line : List ℕ} {order : Order} → Taken places line order → row_of places line ≡ Ok order
unfolding row_of line_fields ordered
taken_so t = simp (t.full, fills_so t.read 1, t.same, t.tests)

-- ---- rows, and a table

pub rows : (places : List ℕ) (n : ℕ) (lines : List (List ℕ)) (all : List Order) → rows_from places n lines ≡ orders all → Along (Taken places) lines all
unfolding rows_from with_row more
rows places n [] all e = let same : [] ≡ all = cc in subst (Along (Taken places) []) same none
rows places n (line ∷ lines) all e = go (row_of places line) refl (rows_from places (n + 1) lines) refl e (rows places (n + 1) lines)
  where
    go : (r : Result Order Wrong) → row_of places line ≡ r → (later : Imported) → rows_from places (n + 1) lines ≡ later → with_row r n later ≡ orders all
        → ((rest : List Order) → rows_from places (n + 1) lines ≡ orders rest → Along (Taken places) lines rest) → Along (Taken places) (line ∷ lines) all
    go (Ok order) f (orders rest) g e later =
        let same : order ∷ rest ≡ all = cc in
        subst (Along (Taken places) (line ∷ lines)) same (one (taken places line order f) (later rest g))
    go (Ok order) f (refused_as why) g e later = absurd (none_such e)
    go (Err wrong) f i g e later = absurd (none_such e)

pub rows-so : {places : List ℕ} {lines : List (List ℕ)} {all : List Order} → Along (Taken places) lines all → (n : ℕ) → rows_from places n lines ≡ orders all
unfolding rows_from with_row more
rows-so none n = refl
rows-so (one t r) n = rw (taken_so t, rows-so r (n + 1))

pub record Table (header : List ℕ) (lines : List (List ℕ)) (all : List Order) : Type 0 where
  pub places : List ℕ
  pub columns : header_of header ≡ Ok places
  pub taken_in : Along (Taken places) (full_lines lines) all

pub imported : (header : List ℕ) (lines : List (List ℕ)) (all : List Order) → import_lines (header ∷ lines) ≡ orders all → Table header lines all
unfolding import_lines with_columns
imported header lines all e = go (header_of header) refl e
  where
    go : (r : Parsed) → header_of header ≡ r → with_columns r (λ places. rows_from places 2 (full_lines lines)) ≡ orders all → Table header lines all
    go (Err wrong) f e = absurd (none_such e)
    go (Ok places) f e = record { places = places; columns = f; taken_in = rows places 2 (full_lines lines) all e }

pub imported_so : {header : List ℕ} {lines : List (List ℕ)} {all : List Order} → Table header lines all → import_lines (header ∷ lines) ≡ orders all
unfolding import_lines with_columns
imported_so t = rw t.columns (rows-so t.taken_in 2)
