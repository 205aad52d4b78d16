-- Sums over trades fit a word, and what holds of each item holds of those that are in. Assumes nothing.
use Rattle.std.specs.Prelude.{if◌then◌else◌}
use mathlib.Core.Path.{◌≡◌, refl}
use mathlib.Core.Bool.{Bool, true, false, ◌&&◌}
use mathlib.Core.List.{List, [], ◌∷◌}
use Prim.Native.Nat.{ℕ, ◌*◌, ◌≤◌, ◌<◌, ◌^◌}
use native.Mathlib.Omega.{arith}
use lib.ListN.{length}
use Rattle.rulebook.specs.declared.Item.{Item}
use Rattle.plain.specs.Lists.{◌is◌, total}
use Rattle.rulebook.specs.Ledger.{Holdings, same_account}
use Rattle.rulebook.specs.Movements.{Place, account, type91, type90, cash_of, member0}
use Rattle.plain.specs.Lists.{Each}
use Rattle.plain.proofs.Lists.{each_append}
use Rattle.rulebook.specs.Shortfall.{seller, buyer, takes, brings, missing}
use Rattle.rulebook.specs.Selection.{Standing, Entry, not_due, taken, left, trades_of, trades_in}
use Rattle.rulebook.proofs.Selection.Alone.{Alone}

-- what a trade moves fits its field
pub record Fits (t : Item) : Type 0 where
  pub quantity : t.quantity.0 < 2 ^ 40
  pub amount : t.amount.0 < 2 ^ 40

total-most :
    (figure : Item → ℕ) → ((t : Item) → Fits t → figure t < 2 ^ 40) → (ts : List Item) → Each Fits ts
    → total figure ts ≤ 1_099_511_627_775 * length ts
total-most figure f [] e = omega arith
total-most figure f (t ∷ ts) e = omega (arith, f t e.0, total-most figure f ts e.1)

only_if : (b : Bool) (n : ℕ) → n < 2 ^ 40 → (if b then n else 0) < 2 ^ 40
only_if true n l = l
only_if false n l = omega arith

takes-most : (p : Place) (t : Item) → Fits t → takes p t < 2 ^ 40
unfolding takes
takes-most (account a) t f = only_if (same_account (seller t) a) t.quantity.0 f.quantity
takes-most (type91 s) t f = omega arith
takes-most (type90 s) t f = omega arith
takes-most (cash_of m c) t f = only_if (t.credited.member is m && t.currency is c) t.amount.0 f.amount
takes-most (member0 c) t f = omega arith

brings-most : (p : Place) (t : Item) → Fits t → brings p t < 2 ^ 40
unfolding brings
brings-most (account a) t f = only_if (same_account (buyer t) a) t.quantity.0 f.quantity
brings-most (type91 s) t f = omega arith
brings-most (type90 s) t f = omega arith
brings-most (cash_of m c) t f = only_if (t.debited.member is m && t.currency is c) t.amount.0 f.amount
brings-most (member0 c) t f = omega arith

-- for at most 64 trades
module _ (ts : List Item) (few : length ts ≤ 64) (fit : Each Fits ts) (p : Place) where
  pub taken_bounded : total (takes p) ts < 2 ^ 46
  taken_bounded = omega (arith, total-most (takes p) (takes-most p) ts fit)

  pub brought_bounded : total (brings p) ts < 2 ^ 46
  brought_bounded = omega (arith, total-most (brings p) (brings-most p) ts fit)

  pub missing-bounded : (h : Holdings) → missing h ts p < 2 ^ 46
  unfolding missing
  missing-bounded h = omega (arith, taken_bounded)

-- what holds of each item and of what goes with it holds of each trade that is in
pub each_in : (P : Item → Type 0) (es : List Entry) → Each (λ e. Each P (trades_of e)) es → Each P (trades_in es)
unfolding trades_in
each_in P [] a = tt
each_in P (e ∷ rest) a = go e.standing refl (each_in P rest a.1)
  where
    go : (m : Standing) → e.standing ≡ m → Each P (trades_in rest) → Each P (trades_in (e ∷ rest))
    go not_due k ih = simp k ih
    go taken k ih = simp k (each_append P (trades_of e) (trades_in rest) a.0 ih)
    go (left lacked) k ih = simp k ih

-- where each goes by itself, there are no more trades in than entries
pub in_most : (es : List Entry) → Alone es → length (trades_in es) ≤ length es
unfolding trades_in
in_most [] a = omega arith
in_most (e ∷ rest) a = go e.standing refl (in_most rest a.1)
  where
    go : (m : Standing) → e.standing ≡ m → length (trades_in rest) ≤ length rest → length (trades_in (e ∷ rest)) ≤ length (e ∷ rest)
    go not_due k ih = simp k (omega arith)
    go taken k ih = simp (k, a.0) (omega arith)
    go (left lacked) k ih = simp k (omega arith)
