-- The column of a field, a byte-order mark, and the columns of a first line, one after the other. Assumes nothing.
use Rattle.std.specs.Prelude.{if◌then◌else◌, nat_eq, cond, Option, Some, None, MatchOption, IsSomeAnd}
use Rattle.std.specs.List.{list_any, position_or_len}
use Rattle.std.specs.Cmp.Lexicographic.{pointwise}
use Prim.Native.Nat.{ℕ, suc, ◌+◌, ◌≤◌, ◌<◌}
use native.Mathlib.Omega.{arith}
use native.Mathlib.Numerals.{add-one, one-add}
use mathlib.Core.Bool.{true, false, Bool, not, ◌||◌, ◌&&◌}
use mathlib.Core.List.{List, [], ◌∷◌}
use mathlib.Core.Path.{◌≡◌, refl, sym, ap, ◌∙◌}
use borrow.Author.Tests.{eq-eqb, ne_eqb, lt-leb, le-leb, lt-ltb}
use lib.Dec.{eqb, ltb, leb-suc-suc}
use lib.ListN.{length, get_or, take, drop, set, length-set, drop_of_length-le}
use lib.Seq.{drop-cons, take-suc-set, length-take-le, get_or-take, get_or-set_same, get_or-set_other}
use native.Mathlib.Decide.{ℕ_discrete}
use Rattle.plain.specs.Lists.{◌one_of◌}
use Rattle.text.specs.Parts.{same_text}
use Rattle.names.specs.Numbers.{field_place}
use Rattle.cells.specs.declared.kind.Kind.TheVariants.{TooManyColumns, RepeatedName}
use Rattle.cells.specs.Cells.{cells, trim}
use Rattle.table.specs.Header.{no_place, Parsed, refused, name_kind, header_from, Known}
use Rattle.table.specs.Lines.{column_from}

-- ---- the column of a field

-- how many places stand before that of a field
abbrev before : (places : List ℕ) (place : ℕ) → ℕ
before places place = position_or_len (λ p. nat_eq p place) places

eqb_sym : (a b : ℕ) → eqb a b ≡ eqb b a
eqb_sym a b = go (ℕ_discrete a b)
  where
    go : Dec (a ≡ b) → eqb a b ≡ eqb b a
    go (yes e) = eq-eqb a b e ∙ sym (eq-eqb b a (sym e))
    go (no d) = ne_eqb a b d ∙ sym (ne_eqb b a (λ e. d (sym e)))

column_before : (places : List ℕ) (place column : ℕ)
    → column_from column places place ≡ cond (ltb (before places place) (length places)) (column + before places place) 0
unfolding column_from
column_before [] place column = refl
column_before (p ∷ places) place column = rw (eqb_sym place p) (go (eqb p place) (column_before places place (column + 1)))
  where
    shift : (t : Bool) → cond t (column + 1 + before places place) 0 ≡ cond t (column + suc (before places place)) 0
    shift true = omega arith
    shift false = refl

    go : (t : Bool) → column_from (column + 1) places place ≡ cond (ltb (before places place) (length places)) (column + 1 + before places place) 0
        → (if t then column else column_from (column + 1) places place)
        ≡ cond (ltb (cond (not t) (1 + before places place) 0) (suc (length places))) (column + cond (not t) (1 + before places place) 0) 0
    go true more = simp (lt-ltb 0 (suc (length places)) (omega arith)) (omega arith)
    go false more =
        rw (one-add, leb-suc-suc (suc (before places place)) (length places)) (more ∙ shift (ltb (before places place) (length places)))

-- what `position` found, counted from 1
pub column_found : (places : List ℕ) (place : ℕ) (r r' : Option ℕ)
    → r ≡ cond (ltb (before places place) (length places)) (Some (before places place)) None
    → MatchOption r (r' ≡ None) (λ i. r' ≡ Some (i + 1))
    → MatchOption r' (column_from 1 places place ≡ 0) (λ column. (column ≡ column_from 1 places place) × (0 < column))
column_found places place r r' e f = go (ltb (before places place) (length places)) (column_before places place 1) e
  where
    go : (t : Bool) → column_from 1 places place ≡ cond t (1 + before places place) 0 → r ≡ cond t (Some (before places place)) None
        → MatchOption r' (column_from 1 places place ≡ 0) (λ column. (column ≡ column_from 1 places place) × (0 < column))
    go true c e = let g : r' ≡ Some (before places place + 1) = rw e at f in rw g (omega arith, omega arith)
    go false c e = let g : r' ≡ None = rw e at f in rw g c

-- `map` counts one more
pub counted_on : (r r' : Option ℕ) {P : ℕ → ℕ → Type 0} → ((i j : ℕ) → P i j → j ≡ i + 1) → MatchOption r (r' ≡ None) (λ i. IsSomeAnd r' (P i))
    → MatchOption r (r' ≡ None) (λ i. r' ≡ Some (i + 1))
counted_on None r' f m = m
counted_on (Some i) (Some j) f m = ap Some (f i j m)
counted_on (Some i) None f m = absurd m

-- a place among others
pub contained : (places : List ℕ) (place : ℕ) → list_any (λ p. nat_eq p place) places ≡ place one_of places
contained [] place = refl
contained (p ∷ places) place = rw (eqb_sym p place) (ap (λ (t : Bool). eqb place p || t) (contained places place))

-- ---- a byte-order mark

pub starts_same : (one other : List ℕ) → pointwise nat_eq other one ≡ same_text one other
unfolding same_text
starts_same [] [] = refl
starts_same [] (b ∷ other) = refl
starts_same (a ∷ one) [] = refl
starts_same (a ∷ one) (b ∷ other) = rw (eqb_sym b a) (ap (λ (t : Bool). eqb a b && t) (starts_same one other))

-- ---- places

pub known_more : (places : List ℕ) (count place : ℕ) → count < length places → place < 18 → Known (take count places)
    → Known (take (count + 1) (set places count place))
known_more places count place h small k =
    let long : length (take (count + 1) (set places count place)) ≡ count + 1 =
    length-take-le (count + 1) (set places count place) (omega (arith, length-set places count place)) in
    record { field = λ i l. rw (get_or-take (count + 1) (set places count place) i 0 (omega arith)) (go i (omega arith) (ℕ_discrete i count)) }
  where
    go : (i : ℕ) → i < count + 1 → Dec (i ≡ count) → get_or (set places count place) i 0 < 18
    go i l (yes s) = rw (s, get_or-set_same places count place 0 h) small
    go i l (no d) =
        rw (get_or-set_other places count i place 0 d, ← get_or-take count places i 0 (omega (arith, d)))
        (k.field i (omega (arith, d, length-take-le count places (omega arith))))

-- ---- the walk

-- behind so many columns comes a cell, or none
module _ (places : List ℕ) (count : ℕ) (line : List ℕ) (r : Parsed)
    (e : header_from (take count places) (drop count (cells line)) ≡ r) (room : count < length places) where
  counted : length (take count places) ≡ count
  counted = length-take-le count places (omega arith)

  pub line-done : length (cells line) ≤ count → header_from (take count places) [] ≡ r
  line-done h = sym (ap (header_from (take count places)) (drop_of_length-le (cells line) h)) ∙ e

  module _ (cell : List ℕ) (here : (count < length (cells line)) × (cell ≡ get_or (cells line) count cell)) where
    step : header_from (take count places) (cell ∷ drop (count + 1) (cells line)) ≡ r
    step =
        let same : drop count (cells line) ≡ cell ∷ drop (count + 1) (cells line) =
        rw add-one (drop-cons (cells line) count cell here.0 ∙ ap (λ (c : List ℕ). c ∷ drop (suc count) (cells line)) (sym here.1))
        in
        sym (ap (header_from (take count places)) same) ∙ e

    pub column_many : 18 ≤ count → refused TooManyColumns (count + 1) no_place ≡ r
    unfolding header_from
    column_many k = sym (simp (counted, le-leb 18 count k)) ∙ step

    module _ (few : count < 18) where
      pub column_strange : field_place (trim cell) ≡ 18 → refused (name_kind (trim cell)) (count + 1) no_place ≡ r
      unfolding header_from
      column_strange u = sym (simp (counted, lt-leb 18 count few, eq-eqb _ 18 u)) ∙ step

      module _ (n : field_place (trim cell) ≡ 18 → ⊥) where
        pub column_twice : field_place (trim cell) one_of (take count places) ≡ true → refused RepeatedName (count + 1) no_place ≡ r
        unfolding header_from
        column_twice s = sym (simp (counted, lt-leb 18 count few, ne_eqb _ 18 n, s)) ∙ step

        pub column_taken : field_place (trim cell) one_of (take count places) ≡ false
            → header_from (take (count + 1) (set places count (field_place (trim cell)))) (drop (count + 1) (cells line)) ≡ r
        unfolding header_from
        column_taken s =
            rw (ap (λ (n : ℕ). take n (set places count (field_place (trim cell)))) (add-one count), take-suc-set places count (field_place (trim cell)) room)
            (sym (simp (counted, lt-leb 18 count few, ne_eqb _ 18 n, s)) ∙ step)
