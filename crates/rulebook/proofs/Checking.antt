-- A checking order: what the first number of a list of numbered tests says. Assumes nothing.
use Rattle.std.specs.Prelude.{if◌then◌else◌}
use mathlib.Core.Path.{◌≡◌, refl, sym, ◌∙◌}
use mathlib.Core.Bool.{Bool, true, false}
use mathlib.Core.List.{List, [], ◌∷◌, ◌++◌}
use Prim.Native.Nat.{ℕ, ◌≤◌}
use native.Mathlib.Omega.{arith}
use borrow.Author.Tests.{ne_eqb}
use Rattle.plain.specs.Lists.{◌is◌, first}
use Rattle.rulebook.specs.Ledger.{Ledger, Holdings, Requests}
use Rattle.rulebook.specs.Refusals.{day_tests, order_tests, item_tests, request_tests, room_tests, refusals}
use Rattle.rulebook.specs.declared.Day.{Day}
use Rattle.rulebook.specs.declared.Item.{Item}
use Rattle.rulebook.specs.declared.Order.{Order}

-- every number is that of a refusal, from 1 on, so that 0 says that no test applies
abbrev pub Numbered : List (ℕ × Bool) → Type 0
Numbered [] = Unit {0}
Numbered (check ∷ rest) = (1 ≤ check.0) × (check.0 ≤ 24) × Numbered rest

-- the test of a number
abbrev pub test_of : ℕ → List (ℕ × Bool) → Bool
test_of number [] = false
test_of number (check ∷ rest) = if check.0 is number then check.1 else test_of number rest

-- where no number is given, no test applies
pub none_applies : (checks : List (ℕ × Bool)) → Numbered checks → first checks ≡ 0 → (number : ℕ) → test_of number checks ≡ false
none_applies [] n e number = refl
none_applies (check ∷ rest) n e number = go check.1 refl (check.0 is number) (λ z. none_applies rest n.2 z number)
  where
    go : (t : Bool) → check.1 ≡ t → (u : Bool) → (first rest ≡ 0 → test_of number rest ≡ false) → (if u then check.1 else test_of number rest) ≡ false
    go true p u later = absurd (omega (arith, n.0, simp p at e))
    go false p true later = p
    go false p false later = later (simp p at e)

-- the first number is that of a refusal, or 0
pub first-known : (checks : List (ℕ × Bool)) → Numbered checks → first checks ≤ 24
first-known [] n = omega arith
first-known (check ∷ rest) n = go check.1 (first-known rest n.2)
  where
    go : (t : Bool) → first rest ≤ 24 → (if t then check.0 else first rest) ≤ 24
    go true later = n.1
    go false later = later

-- of two orders one behind the other, the second is asked where no test of the first applies
pub first-append :
    (one other : List (ℕ × Bool)) → Numbered one → first (one ++ other) ≡ (if first one is 0 then first other else first one)
first-append [] other n = refl
first-append (check ∷ rest) other n = go check.1 (first-append rest other n.2)
  where
    go :
        (t : Bool) → first (rest ++ other) ≡ (if first rest is 0 then first other else first rest)
        → (if t then check.0 else first (rest ++ other))
        ≡ (if (if t then check.0 else first rest) is 0 then first other else (if t then check.0 else first rest))
    go true later = rw (ne_eqb check.0 0 (λ z. omega (arith, n.0)))
    go false later = later

module _ (one other : List (ℕ × Bool)) (numbered : Numbered one) (n : ℕ) (gives : n ≡ first one) where
  -- the first order's number is that of both
  pub first_stops : (n ≡ 0 → ⊥) → n ≡ first (one ++ other)
  first_stops h = sym (first-append one other numbered ∙ rw (← gives, ne_eqb n 0 h))

  -- or it has none, and the second's is
  pub first-goes_on : n ≡ 0 → first (one ++ other) ≡ first other
  first-goes_on e = first-append one other numbered ∙ rw (← gives, e)

-- ---- the stages

pub day_numbered : (day : Day) (order : Order) → Numbered (day_tests day order)
unfolding day_tests
day_numbered day order = omega arith

pub order-numbered : (holdings : Holdings) (today : ℕ) (order : Order) → Numbered (order_tests holdings today order)
unfolding order_tests
order-numbered holdings today order = omega arith

pub items_numbered : (waiting : List Item) (order : Order) → Numbered (item_tests waiting order)
unfolding item_tests
items_numbered waiting order = omega arith

pub requests_numbered : (requests : Requests) (today : ℕ) (order : Order) → Numbered (request_tests requests today order)
unfolding request_tests
requests_numbered requests today order = omega arith

pub refusals_numbered : (book : Ledger) (order : Order) → Numbered (refusals book order)
unfolding refusals day_tests order_tests item_tests request_tests room_tests
refusals_numbered book order = omega arith
