-- The region law: what a buffer's regions are once one of them is changed, stated over any widths. Assumes nothing.
use Rattle.std.specs.Prelude.{if◌then◌else◌}
use Prim.Native.Nat.{ℕ, zero, suc, ◌+◌, ◌-◌, ◌≤◌, ◌<◌}
use native.Mathlib.Numerals.{add-one}
use native.Mathlib.Omega.{arith}
use mathlib.Core.Bool.{Bool, true, false}
use mathlib.Core.List.{List, [], ◌∷◌, ◌++◌, append_assoc}
use mathlib.Core.Path.{◌≡◌, refl, sym, ap, ◌∙◌}
use lib.Dec.{eqb, ltb}
use lib.ListN.{length, get_or, set, take, drop, length-append, length-drop, take-append-drop, get_or-append}
use lib.Seq.{length-take-le, take_at, drop_at, drop-drop, take-append-le, drop-append-le, paste, paste-zero, paste-suc, drop-paste, get_or-take, get_or-drop}
use borrow.Author.Tests.{eqb-true, eqb-false, ltb-true, ltb-false}
use borrow.Rule.Slice.PartMut.{put_mid}
use Rattle.plain.specs.Lists.{◌is◌}
use Rattle.words.specs.Regions.{start_of, whole, region, put_region}

-- ---- a part of a list, k elements from a on, after another part was put in

module _ (xs ys : List ℕ) (a k : ℕ) (fits : a + k ≤ length xs) (wide : length ys ≡ k) where
  -- itself
  pub part_same : take k (drop a (put_mid a k xs ys)) ≡ ys
  part_same = rw (drop_at (take a xs) (ys ++ drop k (drop a xs)) a (length-take-le a xs (omega arith))) (take_at ys (drop k (drop a xs)) k wide)

  -- one that ends before it
  pub part-before : (b m : ℕ) → b + m ≤ a → take m (drop b (put_mid a k xs ys)) ≡ take m (drop b xs)
  part-before b m h =
      let long : length (take a xs) ≡ a = length-take-le a xs (omega arith) in
      let in_b : b ≤ length (take a xs) = omega arith in
      let in-m : m ≤ length (drop b (take a xs)) = rw length-drop (omega arith) in
      let old : take m (drop b xs) ≡ take m (drop b (take a xs)) =
      ap (λ (l : List ℕ). take m (drop b l)) (sym (take-append-drop a xs)) ∙ ap (take m) (drop-append-le b (take a xs) (drop a xs) in_b)
      ∙ take-append-le m (drop b (take a xs)) (drop a xs) in-m in
      ap (take m) (drop-append-le b (take a xs) (ys ++ drop k (drop a xs)) in_b) ∙ take-append-le m (drop b (take a xs)) (ys ++ drop k (drop a xs)) in-m
      ∙ sym old

  -- a word before it
  pub word_before : (b : ℕ) → b < a → get_or (put_mid a k xs ys) b 0 ≡ get_or xs b 0
  word_before b h =
      let long : length (take a xs) ≡ a = length-take-le a xs (omega arith) in get_or-append (take a xs) (ys ++ drop k (drop a xs)) 0 b (omega arith)
      ∙ get_or-take a xs b 0 h

  -- one that starts behind it
  pub part-behind : (b m : ℕ) → a + k ≤ b → take m (drop b (put_mid a k xs ys)) ≡ take m (drop b xs)
  part-behind b m h =
      let long : length (take a xs ++ ys) ≡ a + k = simp (length-append, wide, length-take-le a xs (omega arith)) in
      let far : a + k + (b - (a + k)) ≡ b = omega arith in
      let new : drop (a + k) (put_mid a k xs ys) ≡ drop (a + k) xs =
      ap (drop (a + k)) (sym (append_assoc (take a xs) ys (drop k (drop a xs)))) ∙ drop_at (take a xs ++ ys) (drop k (drop a xs)) (a + k) long
      ∙ drop-drop k a xs in
      let both : drop b (put_mid a k xs ys) ≡ drop b xs =
      ap (λ (n : ℕ). drop n (put_mid a k xs ys)) (sym far) ∙ sym (drop-drop (b - (a + k)) (a + k) (put_mid a k xs ys)) ∙ ap (drop (b - (a + k))) new
      ∙ drop-drop (b - (a + k)) (a + k) xs ∙ ap (λ (n : ℕ). drop n xs) far
      in
      ap (take m) both

  -- one within it
  pub part-inside : (b m : ℕ) → a ≤ b → b + m ≤ a + k → take m (drop b (put_mid a k xs ys)) ≡ take m (drop (b - a) ys)
  part-inside b m h l =
      let far : a + (b - a) ≡ b = omega arith in
      let in-y : b - a ≤ length ys = omega arith in
      let in-m : m ≤ length (drop (b - a) ys) = rw length-drop (omega arith) in
      let to : drop b (put_mid a k xs ys) ≡ drop (b - a) (ys ++ drop k (drop a xs)) =
      ap (λ (n : ℕ). drop n (put_mid a k xs ys)) (sym far) ∙ sym (drop-drop (b - a) a (put_mid a k xs ys))
      ∙ ap (drop (b - a)) (drop_at (take a xs) (ys ++ drop k (drop a xs)) a (length-take-le a xs (omega arith)))
      in
      ap (take m) (to ∙ drop-append-le (b - a) ys (drop k (drop a xs)) in-y) ∙ take-append-le m (drop (b - a) ys) (drop k (drop a xs)) in-m

  pub part_length : length (put_mid a k xs ys) ≡ length xs
  part_length = simp (length-append, wide, length-drop, length-take-le a xs (omega arith)) (omega arith)

-- ---- the regions

-- a region ends within the buffer, and before a later one starts
pub end_within : (ws : List ℕ) (r : ℕ) → r < length ws → start_of ws r + get_or ws r 0 ≤ whole ws
end_within [] r h = absurd (omega arith)
end_within (w ∷ ws) zero h = omega arith
end_within (w ∷ ws) (suc r) h = omega (arith, end_within ws r (omega arith))

end_before : (ws : List ℕ) (r s : ℕ) → r < s → s < length ws → start_of ws r + get_or ws r 0 ≤ start_of ws s
end_before [] r s h l = absurd (omega arith)
end_before (w ∷ ws) r zero h l = absurd (omega arith)
end_before (w ∷ ws) zero (suc s) h l = omega arith
end_before (w ∷ ws) (suc r) (suc s) h l = omega (arith, end_before ws r s (omega arith) (omega arith))

-- THE REGION LAW: the region that was changed is what was put there, and every other is as it was
pub region-put :
    (ws : List ℕ) (r s : ℕ) (xs ys : List ℕ) → whole ws ≤ length xs → r < length ws → s < length ws → length ys ≡ get_or ws r 0
    → region ws s (put_region ws r xs ys) ≡ (if s is r then ys else region ws s xs)
region-put ws r s xs ys fits hr hs wide = go (eqb s r) refl
  where
    within : start_of ws r + get_or ws r 0 ≤ length xs
    within = omega (arith, end_within ws r hr)

    other : (b : Bool) → ltb r s ≡ b → (s ≡ r → ⊥) → region ws s (put_region ws r xs ys) ≡ region ws s xs
    other true e ne = part-behind xs ys (start_of ws r) (get_or ws r 0) within wide (start_of ws s) (get_or ws s 0) (end_before ws r s (ltb-true r s e) hs)
    other false e ne =
        let l : s < r = omega (arith, ltb-false r s e, ne) in
        part-before xs ys (start_of ws r) (get_or ws r 0) within wide (start_of ws s) (get_or ws s 0) (end_before ws s r l hr)

    go : (b : Bool) → eqb s r ≡ b → region ws s (put_region ws r xs ys) ≡ (if b then ys else region ws s xs)
    go true e =
        let same : s ≡ r = eqb-true s r e in ap (λ (n : ℕ). region ws n (put_region ws r xs ys)) same
        ∙ part_same xs ys (start_of ws r) (get_or ws r 0) within wide
    go false e = other (ltb r s) refl (eqb-false s r e)

-- the buffer keeps its length
pub region-length :
    (ws : List ℕ) (r : ℕ) (xs ys : List ℕ) → whole ws ≤ length xs → r < length ws → length ys ≡ get_or ws r 0 → length (put_region ws r xs ys) ≡ length xs
region-length ws r xs ys fits hr wide = part_length xs ys (start_of ws r) (get_or ws r 0) (omega (arith, end_within ws r hr)) wide

-- ---- a copy, told as a part that is put in

pub copy_none : (d : List ℕ) (at : ℕ) (s : List ℕ) → d ≡ paste d at s 0
copy_none d at s = paste-zero d at s

pub copy_more :
    (d w : List ℕ) (at : ℕ) (s : List ℕ) (j : ℕ) → at + j < length d → j < length s → w ≡ paste d at s j → set w (at + j) (get_or s j 0) ≡ paste d at s (j + 1)
copy_more d w at s j hd hs e = ap (λ (l : List ℕ). set l (at + j) (get_or s j 0)) e ∙ paste-suc d at s j 0 hd hs ∙ ap (paste d at s) (sym (add-one j))

-- what lies ahead of a copy is as it was
pub copy_ahead : (d w : List ℕ) (at : ℕ) (s : List ℕ) (j m : ℕ) → at + j ≤ m → at ≤ length d → j ≤ length s → w ≡ paste d at s j → get_or w m 0 ≡ get_or d m 0
copy_ahead d w at s j m h hd hs e =
    let far : at + j + (m - (at + j)) ≡ m = omega arith in
    let through : (l : List ℕ) → get_or l m 0 ≡ get_or (drop (at + j) l) (m - (at + j)) 0 =
    λ l. ap (λ (n : ℕ). get_or l n 0) (sym far) ∙ sym (get_or-drop (at + j) l (m - (at + j)) 0) in
    ap (λ (l : List ℕ). get_or l m 0) e ∙ through (paste d at s j) ∙ ap (λ (l : List ℕ). get_or l (m - (at + j)) 0) (drop-paste d at s j hd hs) ∙ sym (through d)
