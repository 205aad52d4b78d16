-- The waiting list with its marks, by places: sums over it, and how many are marked. Assumes nothing.
use Rattle.std.specs.Prelude.{if◌then◌else◌}
use Prim.Native.Nat.{ℕ, zero, suc, ◌+◌, ◌*◌, ◌^◌, ◌≤◌, ◌<◌}
use native.Mathlib.Decide.{ℕ_discrete}
use native.Mathlib.Omega.{arith}
use mathlib.Core.Bool.{Bool, true, false, ◌&&◌, false≢true}
use mathlib.Core.List.{List, [], ◌∷◌}
use mathlib.Core.Logic.{◌≢◌}
use mathlib.Core.Path.{◌≡◌, refl, sym, ap, ◌∙◌}
use lib.ListN.{length, length-map, get_or}
use lib.Seq.{ext_get_or}
use Rattle.plain.specs.Lists.{total, some, keep, sum_below}
use Rattle.plain.proofs.Sums.{sum-change}
use Rattle.rulebook.specs.declared.Item.{Item}
use Rattle.words.specs.Places.{list_from}
use Rattle.words.proofs.Places.{from_same, from_total, from_get, length_from}
use Rattle.marks.specs.Marks.{Marked, over, with_mark, no_item, item_in, count_on}

-- a sum of numbers below 2^40
pub sum-most : (n : ℕ) (f : ℕ → ℕ) → ((k : ℕ) → k < n → f k < 2 ^ 40) → sum_below n f ≤ n * 1_099_511_627_776
unfolding sum_below
sum-most zero f e = omega arith
sum-most (suc n) f e = omega (arith, e n (omega arith), sum-most n f (λ k l. e k (omega arith)))

pub if-below : (b : Bool) (n : ℕ) → n < 2 ^ 40 → (if b then n else 0) < 2 ^ 40
if-below true n l = l
if-below false n l = omega arith

-- n items with their marks
abbrev pub marking : (ℕ → Bool) → (ℕ → Item) → ℕ → List Marked
marking on item n = list_from (λ k. (on k, item k)) 0 n

-- a list by its places
pub by_places : {A : Type 0} (d : A) (xs : List A) → list_from (λ k. get_or xs k d) 0 (length xs) ≡ xs
by_places d xs =
    ext_get_or d (list_from (λ k. get_or xs k d) 0 (length xs)) xs (length_from (λ k. get_or xs k d) 0 (length xs))
    (λ k l.
    let h : k < length xs = rw (length_from (λ k. get_or xs k d) 0 (length xs)) at l in
    let z : 0 + k ≡ k = omega arith in
    from_get (λ k. get_or xs k d) 0 (length xs) k d h ∙ ap (λ (i : ℕ). get_or xs i d) z)

pub listed : (waiting : List Item) → list_from (item_in waiting) 0 (length waiting) ≡ waiting
listed waiting = by_places no_item waiting

module _ (item : ℕ → Item) (n : ℕ) where
  pub marking-same : (on off : ℕ → Bool) → ((k : ℕ) → k < n → on k ≡ off k) → marking on item n ≡ marking off item n
  marking-same on off e =
      from_same (λ k. (off k, item k)) (λ k. (on k, item k)) 0 0 n
      (λ k l. let z : 0 + k ≡ k = omega arith in rw z (ap (λ (b : Bool). (b, item k)) (e k l)))

  pub over-sum : (f : Item → ℕ) (on : ℕ → Bool) → over f (marking on item n) ≡ sum_below n (λ k. if on k then f (item k) else 0)
  unfolding over
  over-sum f on = from_total (λ (m : Marked). if m.0 then f m.1 else 0) (λ k. (on k, item k)) n

  -- a mark more
  pub over-more :
      (f : Item → ℕ) (on more : ℕ → Bool) (j : ℕ) → j < n → on j ≡ false → more j ≡ true → ((k : ℕ) → k < n → k ≢ j → more k ≡ on k)
      → over f (marking more item n) ≡ over f (marking on item n) + f (item j)
  over-more f on more j l off now e =
      let s =
      sum-change n j (λ k. if on k then f (item k) else 0) (λ k. if more k then f (item k) else 0) l
      (λ k h d. ap (λ (b : Bool). if b then f (item k) else 0) (e k h d))
      in
      let t = rw (off, now) at s in
      omega (arith, over-sum f on, over-sum f more, t)

-- sums and tests over the marked ones are those over the list of them

module _ (figure : Item → ℕ) where
  pub over-marked : (ms : List Marked) → over figure ms ≡ total figure (with_mark ms)
  unfolding over with_mark
  over-marked [] = refl
  over-marked (m ∷ rest) = go m.0 refl (over-marked rest)
    where
      go : (t : Bool) → m.0 ≡ t → over figure rest ≡ total figure (with_mark rest) → over figure (m ∷ rest) ≡ total figure (with_mark (m ∷ rest))
      go true e ih = rw e (omega (arith, ih))
      go false e ih = rw e (omega (arith, ih))

pub some-marked : (test : Item → Bool) (ms : List Marked) → some test (with_mark ms) ≡ some (λ m. m.0 && test m.1) ms
unfolding with_mark
some-marked test [] = refl
some-marked test (m ∷ rest) = go m.0 refl (some-marked test rest)
  where
    go :
        (t : Bool) → m.0 ≡ t → some test (with_mark rest) ≡ some (λ m. m.0 && test m.1) rest
        → some test (with_mark (m ∷ rest)) ≡ some (λ m. m.0 && test m.1) (m ∷ rest)
    go true e ih = rw (e, ih)
    go false e ih = rw (e, ih)

length_kept : (ms : List Marked) → length (keep (λ m. m.0) ms) ≡ total (λ (m : Marked). if m.0 then 1 else 0) ms
length_kept [] = refl
length_kept (m ∷ rest) = go m.0 refl (length_kept rest)
  where
    go :
        (b : Bool) → m.0 ≡ b → length (keep (λ m. m.0) rest) ≡ total (λ (m : Marked). if m.0 then 1 else 0) rest
        → length (keep (λ m. m.0) (m ∷ rest)) ≡ total (λ (m : Marked). if m.0 then 1 else 0) (m ∷ rest)
    go true e ih = rw e (omega arith)
    go false e ih = rw e (omega arith)

pub count_marked : (item : ℕ → Item) (n : ℕ) (on : ℕ → Bool) → length (with_mark (marking on item n)) ≡ count_on on n
unfolding with_mark
count_marked item n on =
    length-map (keep (λ m. m.0) (marking on item n)) (λ m. m.1)
    ∙ length_kept (marking on item n)
    ∙ from_total (λ (m : Marked). if m.0 then 1 else 0) (λ k. (on k, item k)) n

pub count_most : (on : ℕ → Bool) (n : ℕ) → count_on on n ≤ n
unfolding sum_below
count_most on zero = omega arith
count_most on (suc n) = omega (arith, one (on n), count_most on n)
  where
    one : (x : Bool) → (if x then 1 else 0) ≤ 1
    one true = omega arith
    one false = omega arith

-- a mark less is one less in the count
pub count_less :
    (on off : ℕ → Bool) (n j : ℕ) → j < n → on j ≡ true → off j ≡ false → ((k : ℕ) → k < n → k ≢ j → off k ≡ on k) → count_on off n < count_on on n
count_less on off n j l now gone e =
    let one : Bool → ℕ = λ x. if x then 1 else 0 in
    let s = sum-change n j (λ k. one (on k)) (λ k. one (off k)) l (λ k m d. ap one (e k m d)) in
    let t = rw (gone, now) at s in
    omega (arith, t)

-- marks of which none is gone count no less
pub count_grows : (on more : ℕ → Bool) (n : ℕ) → ((k : ℕ) → k < n → on k ≡ true → more k ≡ true) → count_on on n ≤ count_on more n
unfolding sum_below
count_grows on more zero e = omega arith
count_grows on more (suc n) e = omega (arith, count_grows on more n (λ k h. e k (omega arith)), one (on n) (more n) (e n (omega arith)))
  where
    one : (x y : Bool) → (x ≡ true → y ≡ true) → (if x then 1 else 0) ≤ (if y then 1 else 0)
    one true true f = omega arith
    one true false f = absurd (false≢true (f refl))
    one false y f = omega arith

-- and where they count no more, they are the same
pub count_same :
    (on more : ℕ → Bool) (n : ℕ) → ((k : ℕ) → k < n → on k ≡ true → more k ≡ true) → count_on more n ≤ count_on on n → (k : ℕ) → k < n → more k ≡ on k
unfolding sum_below
count_same on more zero e l k h = absurd (omega arith)
count_same on more (suc n) e l k h =
    go (on n) refl (more n) refl (count_same on more n (λ i m. e i (omega arith))) (count_grows on more n (λ i m. e i (omega arith))) (ℕ_discrete k n)
  where
    go :
        (x : Bool) → on n ≡ x → (y : Bool) → more n ≡ y → (count_on more n ≤ count_on on n → (i : ℕ) → i < n → more i ≡ on i)
        → count_on on n ≤ count_on more n → Dec (k ≡ n) → more k ≡ on k
    go true p false q ih g d = absurd (false≢true (sym q ∙ e n (omega arith) p))
    go false p true q ih g d = absurd (omega (arith, rw (p, q) at l, g))
    go true p true q ih g (yes s) = ap more s ∙ q ∙ sym (ap on s ∙ p)
    go true p true q ih g (no d) = ih (omega (arith, rw (p, q) at l)) k (omega (arith, h, d))
    go false p false q ih g (yes s) = ap more s ∙ q ∙ sym (ap on s ∙ p)
    go false p false q ih g (no d) = ih (omega (arith, rw (p, q) at l)) k (omega (arith, h, d))
