-- A walk over the bytes of a cell, one place after the other: over blanks, over digits. Assumes nothing.
use Rattle.std.specs.Prelude.{if◌then◌else◌, nat_eq, Result, Ok, Err}
use Rattle.std.specs.List.{list_all, list_any, position_or_len}
use Rattle.std.specs.Option.{unwrap_or}
use Rattle.std.proofs.Common.{Option, Some, None, reverse, length-append, one-add}
use Rattle.std.proofs.lemmas.List.{length-reverse, reverse-reverse, take-append-le}
use Prim.Native.Nat.{ℕ, suc, ◌+◌, ◌-◌, ◌*◌, ◌^◌, ◌≤◌, ◌<◌}
use native.Mathlib.Omega.{arith}
use mathlib.Core.Bool.{Bool, true, false, cond, not, ◌&&◌}
use mathlib.Core.List.{List, [], ◌∷◌, ◌++◌, reverse-cons}
use mathlib.Core.Path.{◌≡◌, refl, sym, ap, ◌∙◌}
use borrow.Author.Tests.{eq-eqb, ne_eqb, eqb-true, eqb-false, lt-ltb, le-ltb, ltb-false}
use lib.Dec.{eqb, ltb}
use lib.ListN.{length, get_or, take, drop, length-drop, drop_of_length-le}
use Rattle.plain.specs.Lists.{◌one_of◌, within}
use lib.Seq.{take_all}
use Rattle.text.proofs.Cutting.{here}
use Rattle.cells.specs.Cells.{quote, blank, front, before, back, is_empty, strange, read_on}
use Rattle.cells.specs.declared.kind.Kind.{Kind}
use Rattle.cells.specs.declared.kind.Kind.TheVariants.{TooLarge, Quoted}

-- a part that reaches to the end
pub rest_all : (i : ℕ) (l : List ℕ) → take (length l - i) (drop i l) ≡ drop i l
rest_all i l = take_all (length l - i) (drop i l) (omega (arith, length-drop i l))

-- ---- over blanks

-- how many blanks stand before the first byte that is none
abbrev text_at : List ℕ → ℕ
text_at l = position_or_len (λ b. not (blank b)) l

front-drop : (l : List ℕ) → (text_at l ≤ length l) × (drop (text_at l) l ≡ front l)
unfolding front
front-drop [] = (omega arith, refl)
front-drop (b ∷ l) = go (blank b) (front-drop l)
  where
    go : (t : Bool) → (text_at l ≤ length l) × (drop (text_at l) l ≡ front l)
        → (cond (not (not t)) (1 + text_at l) 0 ≤ suc (length l))
        × (drop (cond (not (not t)) (1 + text_at l) 0) (b ∷ l) ≡ (if t then front l else b ∷ l))
    go true more = (omega (arith, more.0), rw one-add more.1)
    go false more = (omega arith, refl)

-- where `position` answers it
abbrev pub Found : List ℕ → Option ℕ → Type 0
Found l r = r ≡ cond (ltb (text_at l) (length l)) (Some (text_at l)) None

found_at : (l : List ℕ) (r : Option ℕ) {n : ℕ} → Found l r → n ≡ unwrap_or r (length l) → n ≡ text_at l
found_at l r {n} e f = go (ltb (text_at l) (length l)) refl (f ∙ ap (λ (r : Option ℕ). unwrap_or r (length l)) e)
  where
    go : (t : Bool) → ltb (text_at l) (length l) ≡ t → n ≡ unwrap_or (cond t (Some (text_at l)) None) (length l) → n ≡ text_at l
    go true g e = e
    go false g e = let most : length l ≤ text_at l = ltb-false _ _ g in omega (arith, (front-drop l).0)

pub past_blanks : (l : List ℕ) (r : Option ℕ) {n : ℕ} → Found l r → n ≡ unwrap_or r (length l) → (n ≤ length l) × (drop n l ≡ front l)
past_blanks l r e f = rw (found_at l r e f) (front-drop l)

back-snoc : (l : List ℕ) (b : ℕ) → back (l ++ (b ∷ [])) ≡ (if blank b then back l else l ++ (b ∷ []))
unfolding back
back-snoc [] b = unfold before in refl
back-snoc (c ∷ l) b = ap (before c) (back-snoc l b) ∙ go (blank b) l
  where
    go : (t : Bool) (l : List ℕ) → before c (if t then back l else l ++ (b ∷ [])) ≡ (if t then before c (back l) else c ∷ (l ++ (b ∷ [])))
    go true l = refl
    go false [] = unfold before in refl
    go false (d ∷ l) = unfold before in refl

-- the blanks behind are those before it read backwards
front-snoc : (l : List ℕ) (b : ℕ) → blank b ≡ false → length (front (b ∷ l)) ≡ suc (length l)
unfolding front
front-snoc l b e = simp e

back-reverse : (l : List ℕ) → back (reverse l) ≡ take (length l - text_at l) (reverse l)
unfolding back
back-reverse [] = refl
back-reverse (b ∷ l) = rw (reverse-cons b l) (back-snoc (reverse l) b ∙ go (blank b) (back-reverse l))
  where
    go : (t : Bool) → back (reverse l) ≡ take (length l - text_at l) (reverse l)
        → (if t then back (reverse l) else reverse l ++ (b ∷ []))
        ≡ take (suc (length l) - cond (not (not t)) (1 + text_at l) 0) (reverse l ++ (b ∷ []))
    go true more =
        let n : suc (length l) - (1 + text_at l) ≡ length l - text_at l = omega arith in
        rw n (more ∙ sym (take-append-le _ (reverse l) (b ∷ []) (omega (arith, length-reverse l))))
    go false more = sym (take_all _ _ (omega (arith, length-append (reverse l) (b ∷ []), length-reverse l)))

pub behind_blanks : (l : List ℕ) (r : Option ℕ) {n : ℕ} → Found (reverse l) r → n ≡ unwrap_or r (length l)
    → (n ≤ length l) × (take (length l - n) l ≡ back l)
behind_blanks l r {n} e f =
    let same : n ≡ text_at (reverse l) = found_at (reverse l) r e (rw (length-reverse l) f) in
    let less : text_at (reverse l) ≤ length l = omega (arith, (front-drop (reverse l)).0, length-reverse l) in
    rw same (less, sym (rw (reverse-reverse l, length-reverse l) at (back-reverse (reverse l))))

-- ---- over digits

-- the number of a text that is read from one of its bytes on
module _ (kind : Kind) (n : ℕ) (l : List ℕ) (i : ℕ) {r : Result ℕ Kind} (e : r ≡ read_on kind n (drop i l)) where
  at_byte : i < length l → r ≡ read_on kind n (get_or l i 0 ∷ drop (i + 1) l)
  at_byte h = e ∙ ap (read_on kind n) (here l i h)

  pub no_digit : i < length l → within 48 57 (get_or l i 0) ≡ false → Err kind ≡ r
  unfolding read_on
  no_digit h d = sym (at_byte h ∙ simp d)

  module _ (h : i < length l) (d : within 48 57 (get_or l i 0) ≡ true) where
    pub too_much : 2 ^ 64 ≤ n * 10 + (get_or l i 0 - 48) → Err TooLarge ≡ r
    unfolding read_on
    too_much large = sym (at_byte h ∙ simp (d, le-ltb _ _ large))

    pub digit_on : n * 10 + (get_or l i 0 - 48) < 2 ^ 64 → r ≡ read_on kind (n * 10 + (get_or l i 0 - 48)) (drop (i + 1) l)
    unfolding read_on
    digit_on small = at_byte h ∙ simp (d, lt-ltb _ _ small)

  pub all_read : length l ≤ i → Ok n ≡ r
  unfolding read_on
  all_read h = sym (e ∙ ap (read_on kind n) (drop_of_length-le l h))

-- ---- nothing but blanks, and a quote somewhere

pub all-blank : (line : List ℕ) → list_all blank line ≡ is_empty line
unfolding is_empty front
all-blank [] = refl
all-blank (b ∷ line) = go (blank b) (all-blank line)
  where
    go : (t : Bool) → list_all blank line ≡ is_empty line → (t && list_all blank line) ≡ eqb (length (if t then front line else b ∷ line)) 0
    go true more = more
    go false more = sym (ne_eqb (suc (length line)) 0 (λ z. omega arith))

has-quote : (l : List ℕ) → list_any (λ b. nat_eq b quote) l ≡ (quote one_of l)
has-quote [] = refl
has-quote (b ∷ l) = go (eqb quote b) refl (has-quote l)
  where
    go : (t : Bool) → eqb quote b ≡ t → list_any (λ b. nat_eq b quote) l ≡ (quote one_of l)
        → list_any (λ b. nat_eq b quote) (b ∷ l) ≡ (quote one_of (b ∷ l))
    go true e more = simp (e, eq-eqb b quote (sym (eqb-true quote b e)))
    go false e more = simp (e, ne_eqb b quote (λ s. eqb-false quote b e (sym s))) more

module _ (kind : Kind) (l : List ℕ) where
  pub with_quote : list_any (λ b. nat_eq b quote) l ≡ true → Quoted ≡ strange kind l
  unfolding strange
  with_quote h = simp (sym (has-quote l) ∙ h)

  pub no_quote : list_any (λ b. nat_eq b quote) l ≡ false → kind ≡ strange kind l
  unfolding strange
  no_quote h = simp (sym (has-quote l) ∙ h)
