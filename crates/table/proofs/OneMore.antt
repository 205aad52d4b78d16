-- One more column under a field's name moves no other field. Assumes nothing.
use Prim.Native.Nat.{ℕ, zero, suc, ◌≤◌, ◌<◌}
use native.Mathlib.Decide.{ℕ_discrete}
use native.Mathlib.Omega.{arith}
use mathlib.Core.Bool.{Bool, true, false}
use mathlib.Core.List.{List, [], ◌∷◌}
use mathlib.Core.Path.{◌≡◌, refl, sym, ap, ◌∙◌}
use borrow.Author.Tests.{ltb-true, ltb-false}
use lib.Dec.{ltb}
use lib.ListN.{length, get_or, set, length-set, get_or-eq_default}
use lib.Seq.{get_or-set_same, get_or-set_other}
use Rattle.plain.specs.Lists.{Each}
use Rattle.rulebook.specs.Record.{fields_of, order_of}
use Rattle.rulebook.specs.declared.Order.{Order}
use Rattle.names.specs.Numbers.{field_place}
use Rattle.cells.specs.Cells.{cells, trim}
use Rattle.table.specs.Theorems.{insert, Widened, Agree, OneColumnMore}
use Rattle.table.proofs.Meaning.{placed, placed_most, header_columned, Fills, no_more, one_more, field_back, Taken, along_both, imported}

-- behind the fields there is 0
field-behind : (order : Order) (place : ℕ) → 18 ≤ place → get_or (fields_of order) place 0 ≡ 0
unfolding fields_of
field-behind order place h = go (ℕ_discrete place 18)
  where
    go : Dec (place ≡ 18) → get_or (fields_of order) place 0 ≡ 0
    go (yes s) = rw s
    go (no d) = get_or-eq_default (fields_of order) 0 {n = place} (omega (arith, d))

module _ (q : ℕ) where
  -- values that differ at one place at most
  abbrev Off : List ℕ → List ℕ → Type 0
  Off v v' = (length v' ≡ length v) × ((p : ℕ) → (p ≡ q → ⊥) → get_or v' p 0 ≡ get_or v p 0)

  off_set : (v v' : List ℕ) (p n : ℕ) → p < length v → Off v v' → Off (set v p n) (set v' p n)
  off_set v v' p n l off = (length-set v' p n ∙ off.0 ∙ sym (length-set v p n), λ r d. go r d (ℕ_discrete r p))
    where
      go : (r : ℕ) → (r ≡ q → ⊥) → Dec (r ≡ p) → get_or (set v' p n) r 0 ≡ get_or (set v p n) r 0
      go r d (yes s) = rw s (get_or-set_same v' p n 0 (omega (arith, off.0)) ∙ sym (get_or-set_same v p n 0 l))
      go r d (no e) = get_or-set_other v' p r n 0 e ∙ off.1 r d ∙ sym (get_or-set_other v p r n 0 e)

  off_one : (v v' : List ℕ) (n : ℕ) → Off v v' → Off v (set v' q n)
  off_one v v' n off = (length-set v' q n ∙ off.0, λ p d. get_or-set_other v' q p n 0 d ∙ off.1 p d)

  -- the same columns
  same_fields : {ps v v' : List ℕ} {cs : List (List ℕ)} {out out' : List ℕ} → Each (λ p. p < length v) ps → Off v v' → Fills ps v cs out
      → Fills ps v' cs out' → Off out out'
  same_fields inside off no_more no_more = off
  same_fields inside off (one_more {p = p} {n = n} {values = v} f r) (one_more {n = m} {values = v'} g s) =
      let same : m ≡ n = cc in
      same_fields (rw (length-set v p n) inside.1) (off_set v v' p n inside.0 off) r (rw same at s)

  -- and one more
  wide_fields : (k : ℕ) {ps v v' : List ℕ} (cell : List ℕ) {cs : List (List ℕ)} {out out' : List ℕ} → Each (λ p. p < length v) ps → Off v v'
      → Fills ps v cs out → Fills (insert k q ps) v' (insert k cell cs) out' → Off out out'
  unfolding insert
  wide_fields zero {v = v} {v' = v'} cell inside off r (one_more {n = n} g s) = same_fields inside (off_one v v' n off) r s
  wide_fields (suc k) {v = v} {v' = v'} cell inside off no_more (one_more {n = n} g no_more) = off_one v v' n off
  wide_fields (suc k) cell inside off (one_more {p = p} {n = n} {values = v} f r) (one_more {n = m} {values = v'} g s) =
      let same : m ≡ n = cc in
      wide_fields k cell (rw (length-set v p n) inside.1) (off_set v v' p n inside.0 off) r (rw same at s)

  -- behind the fields both have 0
  fields_off : (v v' : List ℕ) → Off v v' → Agree q (order_of v) (order_of v')
  fields_off v v' off field d = go (ltb field 18) refl
    where
      go : (t : Bool) → ltb field 18 ≡ t → get_or (fields_of (order_of v')) field 0 ≡ get_or (fields_of (order_of v)) field 0
      go true e = let small = ltb-true field 18 e in field_back v' field small ∙ off.1 field d ∙ sym (field_back v field small)
      go false e = field-behind (order_of v') field (ltb-false field 18 e) ∙ sym (field-behind (order_of v) field (ltb-false field 18 e))

  wide_line : (k : ℕ) (places : List ℕ) → Each (λ p. p < 19) places → (line line' : List ℕ) (order : Order) → Widened k line line' → Taken places line order
      → (order' : Order) → Taken (insert k q places) line' order' → Agree q order order'
  wide_line k places inside line line' order w t order' t' =
      rw (← t.same, ← t'.same)
      (fields_off t.values t'.values (wide_fields k w.cell inside (refl, λ p d. refl) t.read (rw w.wider at t'.read)))

placed_wide : (k : ℕ) (name : List ℕ) (names : List (List ℕ)) → placed (insert k name names) ≡ insert k (field_place (trim name)) (placed names)
unfolding placed insert
placed_wide zero name names = refl
placed_wide (suc k) name [] = refl
placed_wide (suc k) name (other ∷ names) = ap (◌∷◌ (field_place (trim other))) (placed_wide k name names)

pub one_column_more : OneColumnMore
unfolding OneColumnMore
one_column_more k header header' name lines lines' all all' c w e e' =
    let t = imported header lines all e in
    let t' = imported header' lines' all' e' in
    let q : ℕ = field_place (trim name) in
    let named = (header_columned header t.places t.columns).1 in
    let wider : t'.places ≡ insert k q t.places =
    (header_columned header' t'.places t'.columns).1 ∙ ap placed c ∙ placed_wide k name (cells header) ∙ ap (insert k q) (sym named) in
    along_both (λ line order order' agree s. agree order' s)
    (along_both (wide_line q k t.places (rw named (placed_most (cells header)))) w t.taken_in) (rw wider at t'.taken_in)
