-- Rows that are put one behind the other: of every number up to a limit, or of those that a walk from number to number finds. Each time: none yet, one more,
-- all. Assumes nothing.
use Prim.Native.Nat.{ℕ, zero, suc, ◌+◌, ◌*◌, ◌≤◌, ◌<◌}
use native.Mathlib.Nat.{mul-add, mul-le-mul_left}
use native.Mathlib.Omega.{arith}
use mathlib.Core.Bool.{Bool, true, false}
use mathlib.Core.List.{List, [], ◌∷◌, ◌++◌, append-nil}
use mathlib.Core.Path.{◌≡◌, refl, sym, ap, ◌∙◌}
use lib.ListN.{length, get_or, take}
use lib.Seq.{take-suc, take-length}
use Rattle.plain.specs.Lists.{sum_below}
use Rattle.plain.proofs.Sums.{sum-grows}
use Rattle.text.proofs.Putting.{put_then}
use Rattle.book.specs.Keys.{Next}
use Rattle.listing.specs.InOrder.{each_below, each_of}
use Rattle.listing.specs.Listed.{if_so}
use Rattle.listing.proofs.Below.{each_next, of-append, of_one}
use Rattle.listing.proofs.Walking.{up_to, and_it, passed_one}

-- the row of one thing, where it is listed and where it is not
module _ {A : Type 0} (w : A → List ℕ) (x : A) {test : Bool} (out : List ℕ) where
  pub put-listed : (bytes : List ℕ) {after : List ℕ} → test ≡ true → bytes ≡ w x → after ≡ out ++ bytes → after ≡ out ++ each_of w (if_so test x)
  unfolding each_of
  put-listed bytes so e put = rw (so, append-nil (w x), ← e) put

  pub put-unlisted : test ≡ false → out ≡ out ++ each_of w (if_so test x)
  unfolding each_of
  put-unlisted so = rw so (sym (append-nil out))

module _ {A : Type 0} (w : A → List ℕ) (f : ℕ → List A) (out : List ℕ) where
  -- the rows of no number
  rows_none : out ≡ out ++ each_of w (each_below 0 f)
  unfolding each_of each_below
  rows_none = sym (append-nil out)

  -- those of one part behind another
  rows_then :
      {mid last : List ℕ} (m n k : ℕ) → each_below m f ≡ each_below n f ++ f k → mid ≡ out ++ each_of w (each_below n f)
      → last ≡ mid ++ each_of w (f k) → last ≡ out ++ each_of w (each_below m f)
  rows_then m n k e first second = rw (e, of-append w (each_below n f) (f k)) (put_then _ _ _ first second)

-- ---- every number

module _ {A : Type 0} (w : A → List ℕ) (f : ℕ → List A) (width : ℕ) (out : List ℕ) where
  -- the rows of the numbers below i were put, each of which has at most `width` bytes
  pub record Counted (now : List ℕ) (i : ℕ) : Type 0 where
    pub put : now ≡ out ++ each_of w (each_below i f)
    pub within : length now ≤ length out + width * i

  pub counted_none : Counted out 0
  counted_none = record { put = rows_none w f out; within = omega arith }

  pub counted-more :
      {now last : List ℕ} {i : ℕ} → Counted now i → last ≡ now ++ each_of w (f i) → length last ≤ length now + width → Counted last (i + 1)
  counted-more {i = i} so_far row short = record {
    put = rows_then w f out (i + 1) i i (each_next i f) so_far.put row;
    within = omega (arith, so_far.within, short, mul-add width i 1);
  }

-- a list's own elements, by their places
module _ {A : Type 0} (xs : List A) (none : A) where
  abbrev pub placed : ℕ → List A
  placed i = get_or xs i none ∷ []

  first-placed : (n : ℕ) → n ≤ length xs → each_below n placed ≡ take n xs
  unfolding each_below
  first-placed zero l = refl
  first-placed (suc n) l = let inside : n < length xs = omega arith in rw (first-placed n (omega arith), take-suc xs n none)

  pub all_placed : each_below (length xs) placed ≡ xs
  all_placed = first-placed (length xs) (omega arith) ∙ take-length xs

  pub put-placed :
      (w : A → List ℕ) (out : List ℕ) {after : List ℕ} (i : ℕ) → after ≡ out ++ w (get_or xs i none) → after ≡ out ++ each_of w (placed i)
  put-placed w out i put = rw (of_one w (get_or xs i none)) put

-- ---- a walk from number to number

-- what it passes: numbers below a limit, of which a test says which count, at most so many; what is listed of each number makes the list
pub record Walk {A : Type 0} (test : ℕ → Bool) (limit : ℕ) (f : ℕ → List A) (count : ℕ → ℕ) (most : ℕ) (list : List A) : Type 0 where
  pub one : (k : ℕ) → test k ≡ true → count k ≡ 1
  pub few : sum_below limit count ≤ most
  pub nothing : (k : ℕ) → test k ≡ false → f k ≡ []
  pub listed : list ≡ each_below limit f

-- the rows of the numbers below `from` were put, each of which has at most `width` bytes
pub record Walked
    {A : Type 0} (w : A → List ℕ) (width limit : ℕ) (f : ℕ → List A) (count : ℕ → ℕ) (out now : List ℕ) (from : ℕ)
    : Type 0 where
  pub put : now ≡ out ++ each_of w (each_below from f)
  pub least : from ≤ limit
  pub within : length now ≤ length out + width * sum_below from count

module _ {A : Type 0} {w : A → List ℕ} {width limit : ℕ} {f : ℕ → List A} {count : ℕ → ℕ} (out : List ℕ) where
  pub walked_none : Walked w width limit f count out out 0
  walked_none = record { put = rows_none w f out; least = omega arith; within = omega arith }

  module _
      {test : ℕ → Bool} {most : ℕ} {list : List A} (walk : Walk test limit f count most list)
      {now : List ℕ} {from number : ℕ} (so_far : Walked w width limit f count out now from) (found : Next test from limit number)
    where
      -- the rows of all numbers below one are within what all of them take
      within_all : (n : ℕ) → n ≤ limit → width * sum_below n count ≤ width * most
      within_all n l =
          let some = sum-grows n limit count l in
          mul-le-mul_left width (omega (arith, some, walk.few))

      one_more : number < limit → width * sum_below from count + width ≤ width * sum_below (number + 1) count
      one_more l =
          let passed = mul-le-mul_left width (passed_one count from number found.least (walk.one number (found.passes l))) in
          omega (arith, passed, mul-add width (sum_below from count) 1)

      pub walked_room : number < limit → length now + width ≤ length out + width * most
      walked_room l = omega (arith, so_far.within, one_more l, within_all (number + 1) (omega arith))

      pub walked_more :
          {last : List ℕ} → number < limit → last ≡ now ++ each_of w (f number) → length last ≤ length now + width
          → Walked w width limit f count out last (number + 1)
      walked_more l row short = record {
        put = rows_then w f out (number + 1) from number (and_it test from limit number found f walk.nothing) so_far.put row;
        least = omega arith;
        within = omega (arith, so_far.within, one_more l, short);
      }

      pub walked_all : number ≡ limit → (now ≡ out ++ each_of w list) × (length now ≤ length out + width * most)
      walked_all e =
          let all : each_below limit f ≡ each_below from f = ap (λ (n : ℕ). each_below n f) (sym e) ∙ up_to test from limit number found f walk.nothing in
          (rw (walk.listed ∙ all) so_far.put, omega (arith, so_far.within, within_all from so_far.least))
