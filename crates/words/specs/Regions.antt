-- A buffer in regions: region r is as wide as the r-th of `widths` says, and starts where the one before it ends.
use Rattle.std.specs.Prelude.{ℕ, zero, suc, ◌+◌, List, [], ◌∷◌, get_or, take, drop}
use borrow.Rule.Slice.PartMut.{put_mid}

-- where region r starts: the sum of the widths before it
abbrev pub start_of : List ℕ → ℕ → ℕ
start_of [] r = 0
start_of (w ∷ ws) zero = 0
start_of (w ∷ ws) (suc r) = w + start_of ws r

-- all the regions together
abbrev pub whole : List ℕ → ℕ
whole [] = 0
whole (w ∷ ws) = w + whole ws

-- the words of region r
abbrev pub region : List ℕ → ℕ → List ℕ → List ℕ
region ws r xs = take (get_or ws r 0) (drop (start_of ws r) xs)

-- the buffer with ys in the place of region r: what a lent region leaves, as the proofs say it
abbrev pub put_region : List ℕ → ℕ → List ℕ → List ℕ → List ℕ
put_region ws r xs ys = put_mid (start_of ws r) (get_or ws r 0) xs ys
