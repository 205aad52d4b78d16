-- Each form's window, by tests of its number; the next cycle's minute. Assumes nothing.
use Rattle.std.specs.Prelude.{if◌then◌else◌}
use Prim.Native.Nat.{ℕ, zero, suc}
use mathlib.Core.Path.{◌≡◌, refl, sym, ap, ◌∙◌}
use mathlib.Core.Bool.{Bool, true, false, ◌||◌}
use mathlib.Core.List.{List, [], ◌∷◌}
use native.Mathlib.Omega.{arith}
use borrow.Author.Tests.{ne_eqb}
use lib.ListN.{get_or}
use Rattle.plain.specs.Lists.{◌is◌, within}
use Rattle.plain.proofs.Lists.{◌and◌}
use Rattle.rulebook.specs.Windows.{by_kind, office_end, cycle_minutes, payment_hours}
use Rattle.rulebook.specs.Forms.{forms, window_of}
use Rattle.rulebook.specs.declared.Day.{Day}
use Rattle.rulebook.specs.declared.Order.{Order}
use Rattle.rulebook.proofs.ByCall.{HasForm, AllForms, window_at, by_form}
use Rattle.day_tests.specs.Window.{payment_end, answer_end}

-- ---- windows

-- what the tests pick: office hours where none applies
abbrev pub by_test : Day → Order → ℕ → ℕ × ℕ
by_test d o n =
    if n is 1 then (0, 480)
    else if within 3 9 n || within 19 20 n then (510, by_kind d.kind 870 750)
    else if within 12 13 n then (480, payment_end d o.settlement_day)
    else if n is 16 then (get_or (cycle_minutes d.kind) d.cycles 0, office_end d.kind)
    else if n is 17 then (office_end d.kind, 1439)
    else if n is 21 then (480, answer_end d)
    else (480, office_end d.kind)

-- a pair chosen by a test is a pair of what is chosen
payment : (t : Bool) (first a b : ℕ) → ◌≡◌ {A = ℕ × ℕ} (if t then (first, a) else (first, b)) (first, if t then a else b)
payment true first a b = refl
payment false first a b = refl

module _ (d : Day) (o : Order) where
  paid : ◌≡◌ {A = ℕ × ℕ} (payment_hours d o) (480, payment_end d o.settlement_day)
  paid = payment (o.settlement_day is d.number) 480 (by_kind d.kind 825 705) (office_end d.kind)

  -- each form's row has it
  by_row : AllForms (λ n f. HasForm n → f.window d o ≡ by_test d o n) 1 forms
  unfolding forms
  by_row =
      (λ _. refl) and (λ _. refl) and (λ _. refl) and (λ _. refl) and (λ _. refl) and (λ _. refl) and (λ _. refl) and (λ _. refl) and (λ _. refl)
      and (λ _. refl) and (λ _. refl) and (λ _. paid) and (λ _. paid) and (λ _. refl) and (λ _. refl) and (λ _. refl) and (λ _. refl)
      and (λ _. refl) and (λ _. refl) and (λ _. refl) and (λ _. refl) and tt

  abbrev pub Window : ℕ → ℕ → Type 0
  Window first last = (first ≡ (window_of d o).0) × (last ≡ (window_of d o).1)

  module _ (has : HasForm o.form) where
    pub picked : (first last : ℕ) → by_test d o o.form ≡ (first, last) → Window first last
    picked first last e =
        let row = by_form (λ n f. HasForm n → f.window d o ≡ by_test d o n) by_row (λ m none h. absurd (none h)) o.form has in
        let t = sym (window_at o.form d o refl ∙ row ∙ e) in
        (ap (λ (w : ℕ × ℕ). w.0) t, ap (λ (w : ℕ × ℕ). w.1) t)

-- ---- the next cycle's minute, by tests of how many have run

three : List ℕ
three = 585 ∷ 705 ∷ 825 ∷ []

two : List ℕ
two = 585 ∷ 705 ∷ []

minute : Bool → ℕ → ℕ
minute one n = if n is 0 then 585 else if n is 1 then 705 else if n is 2 then (if one then 825 else 0) else 0

minutes : (one : Bool) (n : ℕ) → get_or (if one then three else two) n 0 ≡ minute one n
unfolding three two minute
minutes true zero = refl
minutes true (suc zero) = refl
minutes true (suc (suc zero)) = refl
minutes true (suc (suc (suc n))) =
    rw (ne_eqb (suc (suc (suc n))) 0 (λ e. omega arith), ne_eqb (suc (suc (suc n))) 1 (λ e. omega arith), ne_eqb (suc (suc (suc n))) 2 (λ e. omega arith))
minutes false zero = refl
minutes false (suc zero) = refl
minutes false (suc (suc zero)) = refl
minutes false (suc (suc (suc n))) =
    rw (ne_eqb (suc (suc (suc n))) 0 (λ e. omega arith), ne_eqb (suc (suc (suc n))) 1 (λ e. omega arith), ne_eqb (suc (suc (suc n))) 2 (λ e. omega arith))

pub minute-by_test : (kind n : ℕ) → get_or (cycle_minutes kind) n 0 ≡ (if n is 0 then 585 else if n is 1 then 705 else if n is 2 then by_kind kind 825 0 else 0)
unfolding three two minute cycle_minutes by_kind
minute-by_test kind n = minutes (kind is 1) n
