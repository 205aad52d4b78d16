-- A text cut at a mark, and texts compared, one place after the other. Assumes nothing.
use Rattle.std.specs.Prelude.{if◌then◌else◌, cond}
use Prim.Native.Nat.{ℕ, suc, ◌+◌, ◌-◌, ◌≤◌, ◌<◌}
use native.Mathlib.Omega.{arith}
use native.Mathlib.Numerals.{add-one}
use mathlib.Core.Bool.{Bool, true, false, ◌&&◌}
use mathlib.Core.List.{List, [], ◌∷◌}
use mathlib.Core.Path.{◌≡◌, refl, ap, ◌∙◌}
use borrow.Author.Tests.{eq-eqb, ne_eqb, ltb-true, ltb-false, lt-leb, le-leb}
use lib.Dec.{eqb, ltb}
use lib.ListN.{length, get_or, take, drop, length-drop}
use lib.Seq.{drop-cons, drop-drop, take_all}
use Rattle.std.specs.Cmp.Lexicographic.{pointwise}
use Rattle.std.specs.List.{AllWithin, HoldsAt, slice_split, onto_first, slice_get}
use Rattle.std.specs.Option.{MatchOption, unwrap_or, option_map}
use Rattle.std.specs.declared.option.Option.{Option}
use Rattle.std.specs.declared.option.Option.TheVariants.{None, Some}
use Rattle.std.proofs.lemmas.Iterator.{index_from_first}
use Rattle.std.proofs.lemmas.Option.{unwrap_or-slice_get}
use denote.Bor.{Bor}
use Rattle.plain.specs.Lists.{◌is◌, ◌at_most◌}
use Rattle.text.specs.Parts.{up_to, joined, split, same_text}

-- a byte and what follows it
pub here : (l : List ℕ) (i : ℕ) → i < length l → drop i l ≡ get_or l i 0 ∷ drop (i + 1) l
here l i h = rw add-one (drop-cons l i 0 h)

-- ---- to a mark

-- what holds of nothing, of a mark with all behind it, and of another byte before a text of which it holds, holds of how far it is to the mark
module _ (mark : ℕ) (P : List ℕ → ℕ → Type 0) (none : P [] 0) (found : (b : ℕ) (l : List ℕ) → eqb b mark ≡ true → P (b ∷ l) 0)
    (on : (b : ℕ) (l : List ℕ) → eqb b mark ≡ false → P l (up_to mark l) → P (b ∷ l) (suc (up_to mark l))) where
  pub to_mark : (l : List ℕ) → P l (up_to mark l)
  unfolding up_to
  to_mark [] = none
  to_mark (b ∷ l) = go (eqb b mark) refl (to_mark l)
    where
      go : (t : Bool) → eqb b mark ≡ t → P l (up_to mark l) → P (b ∷ l) (if t then 0 else suc (up_to mark l))
      go true e more = found b l e
      go false e more = on b l e more

pub up_le : (mark : ℕ) (l : List ℕ) → up_to mark l ≤ length l
up_le mark = to_mark mark (λ l n. n ≤ length l) (omega arith) (λ b l e. omega arith) (λ b l e more. omega arith)

-- how far it is to the mark is where the library finds it
pub up_to_found :
    (mark : ℕ) (l : List ℕ) (r : Option ℕ)
    → MatchOption r (AllWithin (λ b. b ≡ mark → ⊥) l 0 (length l)) (λ i. (i < length l) × HoldsAt (λ b. b ≡ mark) l i × AllWithin (λ b. b ≡ mark → ⊥) l 0 i)
    → up_to mark l ≡ unwrap_or r (length l)
unfolding up_to
up_to_found mark =
    index_from_first (up_to mark) (λ b. b ≡ mark) (λ b. b ≡ mark → ⊥) refl (λ b l e. simp (eq-eqb b mark e)) (λ b l n. simp (ne_eqb b mark n, add-one))

-- from a place on is all that is left there
pub rest_of : (l : List ℕ) (at : ℕ) → take (length l - at) (drop at l) ≡ drop at l
rest_of l at = take_all (length l - at) (drop at l) (omega (arith, length-drop at l))

-- ---- parts

split-last : (mark : ℕ) (l : List ℕ) → length l ≤ up_to mark l → split mark l ≡ l ∷ []
unfolding split joined
split-last mark =
    to_mark mark (λ l n. length l ≤ n → split mark l ≡ l ∷ []) (λ h. refl) (λ b l e h. absurd (omega arith))
    (λ b l e more h. simp (e, more (omega arith)))

split-more : (mark : ℕ) (l : List ℕ) → up_to mark l < length l → split mark l ≡ take (up_to mark l) l ∷ split mark (drop (suc (up_to mark l)) l)
unfolding split joined
split-more mark =
    to_mark mark (λ l n. n < length l → split mark l ≡ take n l ∷ split mark (drop (suc n) l)) (λ h. absurd (omega arith)) (λ b l e h. simp e)
    (λ b l e more h. simp (e, more (omega arith)))

-- the parts from a place on; none behind the end
unfoldable pub parts_from : (mark : ℕ) → List ℕ → ℕ → List (List ℕ)
parts_from mark bytes at = if at at_most length bytes then split mark (drop at bytes) else []

pub parts-start : (mark : ℕ) (bytes : List ℕ) → parts_from mark bytes 0 ≡ split mark bytes
unfolding parts_from
parts-start mark bytes = simp (le-leb 0 (length bytes) (omega arith))

module _ (mark : ℕ) (bytes : List ℕ) (at : ℕ) where
  pub parts_none : length bytes < at → parts_from mark bytes at ≡ []
  unfolding parts_from
  parts_none h = simp (lt-leb _ _ h)

  module _ (end : ℕ) (e : end ≡ at + up_to mark (drop at bytes)) (h : at ≤ length bytes) where
    pub part-ends : end ≤ length bytes
    part-ends = omega (arith, up_le mark (drop at bytes), length-drop at bytes)

    -- a part, and those behind it
    pub one_part : parts_from mark bytes at ≡ take (end - at) (drop at bytes) ∷ parts_from mark bytes (end + 1)
    unfolding parts_from
    one_part = go (ltb u (length l)) refl
      where
        l : List ℕ
        l = drop at bytes

        u : ℕ
        u = up_to mark (drop at bytes)

        within : end - at ≡ u
        within = omega arith

        go : (t : Bool) → ltb u (length l) ≡ t
            → (if at at_most length bytes then split mark (drop at bytes) else [])
            ≡ take (end - at) l ∷ (if end + 1 at_most length bytes then split mark (drop (end + 1) bytes) else [])
        go true f =
            let less : u < length l = ltb-true u (length l) f in
            let size : length l ≡ length bytes - at = length-drop at bytes in
            let next : at + suc u ≡ end + 1 = omega arith in
            simp (le-leb at (length bytes) h, le-leb (end + 1) (length bytes) (omega arith), within) (split-more mark l less
            ∙ rw (drop-drop (suc u) at bytes, next))
        go false f =
            let more : length l ≤ u = ltb-false u (length l) f in
            let size : length l ≡ length bytes - at = length-drop at bytes in
            simp (le-leb at (length bytes) h, lt-leb (end + 1) (length bytes) (omega arith), within) (split-last mark l more ∙ rw (take_all u l more))

-- the library's parts
pub split-slice : (mark : ℕ) (l : List ℕ) → split mark l ≡ slice_split (λ b. eqb b mark) l
unfolding split joined
split-slice mark [] = refl
split-slice mark (b ∷ l) = rw (split-slice mark l) (go (eqb b mark) (slice_split (λ b. eqb b mark) l))
  where
    go : (t : Bool) (parts : List (List ℕ)) → (if t then [] ∷ parts else joined b parts) ≡ cond t ([] ∷ parts) (onto_first b parts)
    go true parts = refl
    go false [] = refl
    go false (part ∷ parts) = refl

pub part_at :
    (mark : ℕ) (l : List ℕ) (place : ℕ) (r : Option (Bor (List ℕ))) (none found : Bor (List ℕ))
    → option_map (λ part. part.now) r ≡ slice_get (slice_split (λ b. eqb b mark) l) place → found ≡ unwrap_or r none → none.now ≡ []
    → found.now ≡ get_or (split mark l) place []
part_at mark l place r none found e f n =
    ap (λ (part : Bor (List ℕ)). part.now) f
    ∙ now_of r
    ∙ ap (λ (o : Option (List ℕ)). unwrap_or o []) e
    ∙ unwrap_or-slice_get (slice_split (λ b. eqb b mark) l) place []
    ∙ rw (split-slice mark l)
  where
    now_of : (r : Option (Bor (List ℕ))) → (unwrap_or r none).now ≡ unwrap_or (option_map (λ part. part.now) r) []
    now_of None = n
    now_of (Some part) = refl

-- ---- the same text

pub other_length : (one other : List ℕ) → (length one ≡ length other → ⊥) → false ≡ same_text one other
unfolding same_text
other_length [] [] n = absurd (n refl)
other_length [] (b ∷ other) n = refl
other_length (a ∷ one) [] n = refl
other_length (a ∷ one) (b ∷ other) n = go (eqb a b) (same_text one other) (other_length one other (λ e. n (ap suc e)))
  where
    go : (t r : Bool) → false ≡ r → false ≡ (t && r)
    go true r e = e
    go false r e = refl

-- bytes are compared from the first on, as the library compares them
pub same-text : (one other : List ℕ) → same_text one other ≡ pointwise eqb one other
unfolding same_text
same-text [] [] = refl
same-text [] (b ∷ other) = refl
same-text (a ∷ one) [] = refl
same-text (a ∷ one) (b ∷ other) = ap (λ (r : Bool). a is b && r) (same-text one other)

-- ---- a part with a number, counted from 1

pub number-0 : (parts : List (List ℕ)) (number : ℕ) → number ≡ 0 → get_or ([] ∷ parts) number [] ≡ []
number-0 parts number e = rw e
