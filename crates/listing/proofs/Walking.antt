-- A walk by numbers: what stands before the next one that counts, and how many have been passed. Assumes nothing.
use Prim.Native.Nat.{ℕ, ◌+◌, ◌≤◌}
use native.Mathlib.Omega.{arith}
use mathlib.Core.Bool.{Bool, false}
use mathlib.Core.List.{List, [], ◌++◌}
use mathlib.Core.Path.{◌≡◌, ap, ◌∙◌}
use Rattle.plain.specs.Lists.{sum_below}
use Rattle.plain.proofs.Sums.{sum-last, sum-grows}
use Rattle.book.specs.Keys.{Next}
use Rattle.listing.specs.InOrder.{each_below}
use Rattle.listing.proofs.Below.{each_next, each_gap}

module _
    {A : Type 0} (test : ℕ → Bool) (from limit next : ℕ) (found : Next test from limit next) (f : ℕ → List A)
    (nothing : (k : ℕ) → test k ≡ false → f k ≡ [])
  where
    -- up to the next one, and with it
    pub up_to : each_below next f ≡ each_below from f
    up_to = each_gap from next f found.least (λ k l m. nothing k (found.others k l m))

    pub and_it : each_below (next + 1) f ≡ each_below from f ++ f next
    and_it = each_next next f ∙ ap (λ (l : List A). l ++ f next) up_to

-- one more has been passed
pub passed_one : (g : ℕ → ℕ) (from next : ℕ) → from ≤ next → g next ≡ 1 → sum_below from g + 1 ≤ sum_below (next + 1) g
passed_one g from next l one = omega (arith, sum-last next g, sum-grows from next g l, one)
