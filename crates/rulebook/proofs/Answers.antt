-- Refusals and their numbers are one to one, and an answer has the number of the first test that applies. Assumes nothing.
use Rattle.std.specs.Prelude.{if◌then◌else◌, Result, Ok, Err}
use mathlib.Core.Path.{◌≡◌, refl, sym}
use mathlib.Core.Bool.{Bool, true, false}
use mathlib.Core.List.{List, ◌∷◌}
use Prim.Native.Nat.{ℕ, zero, suc, ◌≤◌, ◌<◌}
use native.Mathlib.Omega.{arith}
use borrow.Author.Tests.{eqb-true}
use lib.ListN.{length}
use Rattle.plain.specs.Lists.{◌is◌, ◌below◌, first}
use Rattle.rulebook.specs.Answers.{number_of, all_refusals, refusal_of, number_in}
use Rattle.rulebook.specs.Record.{fields_of, fields_in, order_of, field_tests, read_tests, read_refusal, read_of, read_number, write_refusal, written_of, written_number}
use Rattle.rulebook.specs.declared.Order.{Order}
use Rattle.rulebook.specs.declared.Refusal.{Refusal}
use Rattle.rulebook.proofs.Below.{same_below}
use Rattle.rulebook.proofs.Checking.{Numbered, first-known}

-- the refusal of a refusal's number, which is not 0
pub refusal-back : (refusal : Refusal) → (refusal_of (number_of refusal) ≡ refusal) × ((number_of refusal is 0) ≡ false)
unfolding refusal_of all_refusals
refusal-back Refusal.ShortArea = (refl, refl)
refusal-back Refusal.RecordLength = (refl, refl)
refusal-back Refusal.NoForm = (refl, refl)
refusal-back Refusal.UnusedField = (refl, refl)
refusal-back Refusal.FieldRange = (refl, refl)
refusal-back Refusal.WrongDay = (refl, refl)
refusal-back Refusal.WrongCycle = (refl, refl)
refusal-back Refusal.MinuteGoesBack = (refl, refl)
refusal-back Refusal.OutsideWindow = (refl, refl)
refusal-back Refusal.WrongSecurity = (refl, refl)
refusal-back Refusal.WrongTypes = (refl, refl)
refusal-back Refusal.WrongParties = (refl, refl)
refusal-back Refusal.WrongDays = (refl, refl)
refusal-back Refusal.WrongReference = (refl, refl)
refusal-back Refusal.WrongCancel = (refl, refl)
refusal-back Refusal.TooLittle = (refl, refl)
refusal-back Refusal.OverCeiling = (refl, refl)
refusal-back Refusal.NoSpace = (refl, refl)
refusal-back Refusal.WrongRequest = (refl, refl)
refusal-back Refusal.EndsTooSoon = (refl, refl)
refusal-back Refusal.TooManyRequests = (refl, refl)
refusal-back Refusal.AwaitsAnswer = (refl, refl)
refusal-back Refusal.NothingSent = (refl, refl)
refusal-back Refusal.CancelsSent = (refl, refl)

-- what answers by a number, where that is a refusal's
pub refused_by :
    {A : Type 0} (value : A) (n : ℕ) (refusal : Refusal) → number_of refusal ≡ n
    → ◌≡◌ {A = Result A Refusal} (if n is 0 then Ok value else Err (refusal_of n)) (Err refusal)
refused_by value n refusal e = let back = refusal-back refusal in rw (← e, back.1, back.0)

-- the number of a number's refusal
number_above : (k : ℕ) → k < 24 → number_of (refusal_of (suc k)) ≡ suc k
unfolding refusal_of all_refusals
number_above = same_below 24 (λ k. number_of (refusal_of (suc k))) suc refl

pub number-back : (n : ℕ) → (n is 0) ≡ false → n ≤ 24 → number_of (refusal_of n) ≡ n
number-back zero p l = cc
number-back (suc k) p l = number_above k (omega arith)

-- what answers by the first of some tests has its number
number_answered :
    {A : Type 0} (checks : List (ℕ × Bool)) (value : A) → Numbered checks
    → number_in (if first checks is 0 then Ok value else Err (refusal_of (first checks))) ≡ first checks
number_answered {A} checks value n = go (first checks) (first checks is 0) refl (first-known checks n)
  where
    go : (m : ℕ) (t : Bool) → (m is 0) ≡ t → m ≤ 24 → number_in (if t then Ok value else Err (refusal_of m)) ≡ m
    go m true p l = sym (eqb-true m 0 p)
    go m false p l = number-back m p l

pub read-number : (octets : List ℕ) → read_number (read_of octets) ≡ read_refusal octets
unfolding read_number read_of read_refusal
read-number octets = number_answered (read_tests octets) (order_of (fields_in octets)) (omega arith)

pub written-number : (order : Order) (area : List ℕ) → written_number (written_of order area) ≡ write_refusal order area
unfolding written_number written_of write_refusal
written-number order area = number_answered ((1, length area below 40) ∷ field_tests (fields_of order)) tt (omega arith)
