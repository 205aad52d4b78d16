-- The legs of all marked trades, as a loop adds them to the figures one by one. Assumes nothing.
use Rattle.std.specs.Prelude.{if◌then◌else◌}
use Prim.Native.Nat.{ℕ, ◌+◌, ◌<◌}
use native.Mathlib.Omega.{arith}
use mathlib.Core.Bool.{Bool, true, false}
use mathlib.Core.List.{List}
use mathlib.Core.Path.{◌≡◌, ap, ◌∙◌}
use lib.ListN.{length}
use Rattle.plain.specs.Lists.{sum_below}
use Rattle.plain.proofs.Sums.{sum-last, sum-grows}
use Rattle.legs.specs.Figures.{has_at, owes_at, brings, takes, brings_all, takes_all, Figures, Room, RoomAll}

-- the figures with the marked ones of the first j legs
abbrev pub Added : ℕ → (ℕ → Bool) → (legs before : List ℕ) → ℕ → List ℕ → Type 0
Added n on legs before j now = Figures n (λ k. has_at before k + brings_all j on legs k) (λ k. owes_at before k + takes_all j on legs k) now

sum-next :
    (j : ℕ) (on : ℕ → Bool) (f : ℕ → ℕ) (b : Bool) → on j ≡ b
    → sum_below (j + 1) (λ k. if on k then f k else 0) ≡ sum_below j (λ k. if on k then f k else 0) + (if b then f j else 0)
sum-next j on f b e = sum-last j (λ k. if on k then f k else 0) ∙ ap (λ (x : Bool). sum_below j (λ k. if on k then f k else 0) + (if x then f j else 0)) e

module _ (n : ℕ) (on : ℕ → Bool) (legs before : List ℕ) where
  pub added_none : length before ≡ 128 → Added n on legs before 0 before
  unfolding sum_below
  added_none l = record { long = l; has_as = λ k h. omega arith; owes_as = λ k h. omega arith }

  module _ (j : ℕ) (low : j < n) (now : List ℕ) (d : Added n on legs before j now) where
    pub added_room : on j ≡ true → RoomAll n on legs before → Room n legs j now
    added_room e r = record {
      has = λ k h.
          let more = sum-grows (j + 1) n (λ i. if on i then brings legs i k else 0) (omega arith) in
          omega (arith, d.has_as k h, r.has k h, sum-next j on (λ i. brings legs i k) true e, more);
      owes = λ k h.
          let more = sum-grows (j + 1) n (λ i. if on i then takes legs i k else 0) (omega arith) in
          omega (arith, d.owes_as k h, r.owes k h, sum-next j on (λ i. takes legs i k) true e, more);
    }

    pub added_on :
        on j ≡ true → (after : List ℕ) → Figures n (λ k. has_at now k + brings legs j k) (λ k. owes_at now k + takes legs j k) after
        → Added n on legs before (j + 1) after
    added_on e after f = record {
      long = f.long;
      has_as = λ k h. omega (arith, d.has_as k h, f.has_as k h, sum-next j on (λ i. brings legs i k) true e);
      owes_as = λ k h. omega (arith, d.owes_as k h, f.owes_as k h, sum-next j on (λ i. takes legs i k) true e);
    }

    pub added_off : on j ≡ false → Added n on legs before (j + 1) now
    added_off e = record {
      long = d.long;
      has_as = λ k h. omega (arith, d.has_as k h, sum-next j on (λ i. brings legs i k) false e);
      owes_as = λ k h. omega (arith, d.owes_as k h, sum-next j on (λ i. takes legs i k) false e);
    }
