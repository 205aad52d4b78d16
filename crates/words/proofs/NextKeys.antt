-- The least key of the first rows of a table and of one more. Assumes nothing.
use Rattle.std.specs.Prelude.{if◌then◌else◌}
use Prim.Native.Nat.{ℕ, ◌+◌, ◌≤◌, ◌<◌}
use native.Mathlib.Decide.{ℕ_discrete}
use native.Mathlib.Omega.{arith}
use mathlib.Core.Bool.{Bool, true, false, true≢false}
use mathlib.Core.List.{List}
use mathlib.Core.Path.{◌≡◌, refl, sym, ◌∙◌, subst}
use borrow.Author.Tests.{ltb-true, ltb-false}
use Rattle.plain.specs.Lists.{◌below◌}
use Rattle.words.specs.Tables.{key_at}
use Rattle.words.specs.Order.{Next, lesser_of, RowOf, LeastOf}

-- there is one such number
pub next_once : (test : ℕ → Bool) (from limit m n : ℕ) → Next test from limit m → Next test from limit n → m ≡ n
next_once test from limit m n p q = go (m below n) (n below m) refl refl
  where
    -- the lesser would pass and not pass
    apart : (x y : ℕ) → Next test from limit x → Next test from limit y → (x below y) ≡ true → ⊥
    apart x y a b e =
        let l : x < y = ltb-true x y e in
        let z : true ≡ false = sym (a.passes (omega (arith, l, b.most))) ∙ b.others x a.least l in
        true≢false z

    go : (x y : Bool) → (m below n) ≡ x → (n below m) ≡ y → m ≡ n
    go true y e f = absurd (apart m n p q e)
    go false true e f = absurd (apart n m q p f)
    go false false e f = omega (arith, ltb-false m n e, ltb-false n m f)

module _ (table : List ℕ) (from limit : ℕ) where
  module _ (n least : ℕ) (so_far : LeastOf table n from limit least) where
    one_further : RowOf table n least → RowOf table (n + 1) least
    one_further row = record { place = row.place; inside = omega (arith, row.inside); here = row.here }

    at_most_lem : (l : ℕ) → l ≤ least → (from ≤ key_at table n → l ≤ key_at table n) → (i : ℕ) → i < n + 1 → from ≤ key_at table i → l ≤ key_at table i
    at_most_lem l low own i inside f = go (ℕ_discrete i n)
      where
        go : Dec (i ≡ n) → l ≤ key_at table i
        go (yes e) = subst (λ (k : ℕ). l ≤ key_at table k) (sym e) (own (subst (λ (k : ℕ). from ≤ key_at table k) e f))
        go (no d) = omega (arith, low, so_far.others i (omega (arith, inside, d)) f)

    pub least_more : LeastOf table (n + 1) from limit (lesser_of from least (key_at table n))
    least_more = below-from (key_at table n below from) refl
      where
        keep : (from ≤ key_at table n → least ≤ key_at table n) → LeastOf table (n + 1) from limit least
        keep own = record {
          from_least = so_far.from_least;
          most = so_far.most;
          row = λ l. one_further (so_far.row l);
          others = at_most_lem least (omega arith) own;
        }

        take_it : from ≤ key_at table n → key_at table n ≤ least → LeastOf table (n + 1) from limit (key_at table n)
        take_it f l = record {
          from_least = f;
          most = omega (arith, l, so_far.most);
          row = λ m. record { place = n; inside = omega arith; here = refl };
          others = at_most_lem (key_at table n) l (λ g. omega arith);
        }

        above : from ≤ key_at table n → (b : Bool) → (least below key_at table n) ≡ b → LeastOf table (n + 1) from limit (if b then least else key_at table n)
        above f true e = keep (λ g. omega (arith, ltb-true least (key_at table n) e))
        above f false e = take_it f (ltb-false least (key_at table n) e)

        below-from :
            (b : Bool) → (key_at table n below from) ≡ b
            → LeastOf table (n + 1) from limit (if b then least else if least below key_at table n then least else key_at table n)
        below-from true e = keep (λ g. absurd (omega (arith, g, ltb-true (key_at table n) from e)))
        below-from false e = above (ltb-false (key_at table n) from e) (least below key_at table n) refl
