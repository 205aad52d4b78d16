-- The order of the columns changes nothing: two neighbours change places in the first line and in every other. Assumes nothing.
use Rattle.std.specs.Prelude.{if◌then◌else◌, Ok}
use Prim.Native.Nat.{ℕ, zero, suc, ◌+◌, ◌≤◌}
use native.Mathlib.Omega.{arith}
use mathlib.Core.Bool.{Bool, true, false, ◌&&◌, and-false, true≢false}
use mathlib.Core.List.{List, [], ◌∷◌}
use mathlib.Core.Path.{◌≡◌, refl, sym, ap, ◌∙◌, subst}
use borrow.Author.Tests.{ne_eqb, eqb-true}
use lib.Dec.{eqb}
use lib.ListN.{length}
use lib.Seq.{set_comm}
use Rattle.plain.specs.Lists.{◌is◌, total}
use Rattle.plain.proofs.Lists.{length_total}
use Rattle.rulebook.specs.Field.{form, minute}
use Rattle.rulebook.specs.declared.Order.{Order}
use Rattle.text.specs.Parts.{split, joined}
use Rattle.names.specs.Numbers.{field_place}
use Rattle.cells.specs.Cells.{comma, cells, trim, blank, front, is_empty, leading, full_lines}
use Rattle.table.specs.Header.{header_of}
use Rattle.table.specs.Lines.Imported.{orders}
use Rattle.table.specs.Import.{import_lines, is_refused}
use Rattle.table.specs.Theorems.{exchange, Along, Exchanged, Rearranged, AnyOrder, RefusedAnyOrder}
use Rattle.table.specs.Theorems.Along.{none, one}
use Rattle.table.specs.Theorems.Rearranged.{same as as_it_was, then as x-then}
use Rattle.table.proofs.Places.{times, apart, first_more}
use Rattle.table.proofs.Meaning.{placed, Fit, named, header_columned, Fills, no_more, one_more, Taken, along_both, imported, imported_so, refused-unless}

-- ---- neighbours

-- a sum over a list, and how long it is, are those of before
module _ {A : Type 0} where
  sum-exchange : (figure : A → ℕ) (k : ℕ) (l : List A) → total figure (exchange k l) ≡ total figure l
  unfolding exchange
  sum-exchange figure k [] = refl
  sum-exchange figure zero (a ∷ []) = refl
  sum-exchange figure zero (a ∷ b ∷ l) = omega arith
  sum-exchange figure (suc k) (a ∷ l) = ap (λ (n : ℕ). figure a + n) (sum-exchange figure k l)

  long_exchange : (k : ℕ) (l : List A) → length (exchange k l) ≡ length l
  long_exchange k l = length_total (exchange k l) ∙ sum-exchange (λ a. 1) k l ∙ sym (length_total l)

  exchange-back : (k : ℕ) (l : List A) → exchange k (exchange k l) ≡ l
  unfolding exchange
  exchange-back k [] = refl
  exchange-back zero (a ∷ []) = refl
  exchange-back zero (a ∷ b ∷ l) = refl
  exchange-back (suc k) (a ∷ l) = ap (◌∷◌ a) (exchange-back k l)

placed_exchange : (k : ℕ) (names : List (List ℕ)) → placed (exchange k names) ≡ exchange k (placed names)
unfolding exchange placed
placed_exchange k [] = refl
placed_exchange zero (a ∷ []) = refl
placed_exchange zero (a ∷ b ∷ l) = refl
placed_exchange (suc k) (a ∷ l) = ap (◌∷◌ (field_place (trim a))) (placed_exchange k l)

fit_exchange : (k : ℕ) (places : List ℕ) → Fit places → Fit (exchange k places)
fit_exchange k places f =
    let same : (n : ℕ) → times n (exchange k places) ≡ times n places = λ n. sum-exchange (λ p. if n is p then 1 else 0) k places in
    record {
      apart = record {
        few = omega (arith, long_exchange k places, f.apart.few);
        known = same 18 ∙ f.apart.known;
        once = λ n. omega (arith, same n, f.apart.once n);
      };
      has_form = omega (arith, same form, f.has_form);
      has_minute = omega (arith, same minute, f.has_minute);
    }

fills_exchange : (k : ℕ) {ps values : List ℕ} {cs : List (List ℕ)} {out : List ℕ} → ((n : ℕ) → times n ps ≤ 1) → Fills ps values cs out
    → Fills (exchange k ps) values (exchange k cs) out
unfolding exchange
fills_exchange k once no_more = no_more
fills_exchange zero once (one_more f no_more) = one_more f no_more
fills_exchange zero once (one_more {p = p} {n = n} {values = values} f (one_more {p = q} {n = m} {ps = ps} g r)) =
    let other : p ≡ q → ⊥ = apart p q ps (omega (arith, once p, first_more p (q ∷ ps))) in
    one_more g (one_more f (rw (set_comm values p q n m other) at r))
fills_exchange (suc k) once (one_more f r) = one_more f (fills_exchange k (λ n. omega (arith, once n)) r)

-- ---- empty lines

-- a line is empty where it has one cell and that is empty
abbrev pub alone : List (List ℕ) → Bool
alone [] = true
alone (cell ∷ []) = is_empty cell
alone (cell ∷ next ∷ others) = false

empty_cons : (b : ℕ) (l : List ℕ) → is_empty (b ∷ l) ≡ (blank b && is_empty l)
unfolding is_empty front
empty_cons b l = go (blank b)
  where
    go : (t : Bool) → eqb (length (if t then front l else b ∷ l)) 0 ≡ (t && eqb (length (front l)) 0)
    go true = refl
    go false = ne_eqb (suc (length l)) 0 (λ z. omega arith)

alone-joined : (b : ℕ) (parts : List (List ℕ)) → alone (joined b parts) ≡ (blank b && alone parts)
unfolding joined is_empty front
alone-joined b [] = empty_cons b []
alone-joined b (part ∷ []) = empty_cons b part
alone-joined b (part ∷ next ∷ parts) = sym (and-false (blank b))

some-cells : (cell line : List ℕ) → alone (cell ∷ cells line) ≡ false
unfolding split joined
some-cells cell [] = refl
some-cells cell (b ∷ line) = go (eqb b comma) (cells line)
  where
    go : (t : Bool) (parts : List (List ℕ)) → alone (cell ∷ (if t then [] ∷ parts else joined b parts)) ≡ false
    go true parts = refl
    go false [] = refl
    go false (part ∷ parts) = refl

pub empty_alone : (line : List ℕ) → is_empty line ≡ alone (cells line)
unfolding split
empty_alone [] = refl
empty_alone (b ∷ line) = empty_cons b line ∙ go (eqb b comma) refl (empty_alone line)
  where
    go : (t : Bool) → eqb b comma ≡ t → is_empty line ≡ alone (cells line)
        → (blank b && is_empty line) ≡ alone (if t then [] ∷ cells line else joined b (cells line))
    go true e more = ap (λ (c : ℕ). blank c && is_empty line) (eqb-true b comma e) ∙ sym (some-cells [] line)
    go false e more = ap (λ (t : Bool). blank b && t) more ∙ sym (alone-joined b (cells line))

alone-exchange : (k : ℕ) (cs : List (List ℕ)) → alone (exchange k cs) ≡ alone cs
unfolding exchange
alone-exchange k [] = refl
alone-exchange zero (c ∷ []) = refl
alone-exchange (suc k) (c ∷ []) = refl
alone-exchange zero (c ∷ d ∷ cs) = refl
alone-exchange (suc zero) (c ∷ d ∷ []) = refl
alone-exchange (suc zero) (c ∷ d ∷ e ∷ cs) = refl
alone-exchange (suc (suc k)) (c ∷ d ∷ cs) = refl

empty_exchange : (k : ℕ) (line other : List ℕ) → Exchanged k line other → is_empty other ≡ is_empty line
empty_exchange k line other c = empty_alone other ∙ ap alone c ∙ alone-exchange k (cells line) ∙ sym (empty_alone line)

full-exchange : (k : ℕ) {lines others : List (List ℕ)} → Along (Exchanged k) lines others → Along (Exchanged k) (full_lines lines) (full_lines others)
unfolding full_lines
full-exchange k none = none
full-exchange k (one {a = line} {b = other} c x) = go c (empty_exchange k line other c) (full-exchange k x)
  where
    go : {lines others : List (List ℕ)} → Exchanged k line other → is_empty other ≡ is_empty line → Along (Exchanged k) lines others
        → Along (Exchanged k) (leading line lines) (leading other others)
    go c e none = unfold leading in rw e (alike c (is_empty line))
      where
        alike : Exchanged k line other → (t : Bool) → Along (Exchanged k) (if t then [] else line ∷ []) (if t then [] else other ∷ [])
        alike c true = none
        alike c false = one c none
    go c e (one d x) = unfold leading in one c (one d x)

-- ---- the whole table

header_exchange : (k : ℕ) (header other places : List ℕ) → Exchanged k header other → header_of header ≡ Ok places
    → header_of other ≡ Ok (exchange k places)
unfolding header_of
header_exchange k header other places c e =
    let columns = header_columned header places e in
    let same : placed (cells other) ≡ exchange k places = ap placed c ∙ placed_exchange k (cells header) ∙ ap (exchange k) (sym columns.1) in
    simp (empty_exchange k header other c ∙ columns.0)
    (named [] (cells other) (subst Fit (sym same) (fit_exchange k places columns.2)) ∙ ap Ok same)

line-exchange : (k : ℕ) (places : List ℕ) → Fit places → (line other : List ℕ) (order : Order) → Exchanged k line other → Taken places line order
    → Taken (exchange k places) other order
line-exchange k places f line other order c t = record {
  full = empty_exchange k line other c ∙ t.full;
  values = t.values;
  read = rw c (fills_exchange k f.apart.once t.read);
  same = t.same;
  tests = t.tests;
}

import_exchange : (k : ℕ) {lines others : List (List ℕ)} (all : List Order) → Along (Exchanged k) lines others → import_lines lines ≡ orders all
    → import_lines others ≡ orders all
import_exchange k all none e = e
import_exchange k all (one {a = header} {b = other} {rest = lines} c x) e =
    let t = imported header lines all e in
    imported_so (record {
      places = exchange k t.places;
      columns = header_exchange k header other t.places c t.columns;
      taken_in = along_both (line-exchange k t.places (header_columned header t.places t.columns).2) (full-exchange k x) t.taken_in;
    })

pub any_order : AnyOrder
unfolding AnyOrder
any_order lines others all r e = go r e
  where
    go : {lines others : List (List ℕ)} → Rearranged lines others → import_lines lines ≡ orders all → import_lines others ≡ orders all
    go as_it_was e = e
    go (x-then k x r) e = go r (import_exchange k all x e)

-- ---- and back

changed-back : (k : ℕ) {lines others : List (List ℕ)} → Along (Exchanged k) lines others → Along (Exchanged k) others lines
changed-back k none = none
changed-back k (one {a = line} c x) = one (sym (ap (exchange k) c ∙ exchange-back k (cells line))) (changed-back k x)

pub refused-any_order : RefusedAnyOrder
unfolding RefusedAnyOrder is_refused
refused-any_order lines others r e = go r e
  where
    go : {lines others : List (List ℕ)} → Rearranged lines others → is_refused (import_lines lines) ≡ true → is_refused (import_lines others) ≡ true
    go as_it_was e = e
    go (x-then {between = between} k x r) e =
        go r (refused-unless (import_lines between) (λ all f. true≢false (sym e ∙ ap is_refused (import_exchange k all (changed-back k x) f))))
