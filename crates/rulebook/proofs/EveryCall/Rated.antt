-- What each form makes of the rate: form 18 sets it, and the others keep it. Assumes nothing.
use Rattle.std.specs.Prelude.{if◌then◌else◌}
use mathlib.Core.Path.{◌≡◌, refl, sym, subst}
use mathlib.Core.Bool.{Bool, true, false}
use Prim.Native.Nat.{ℕ}
use native.Mathlib.Omega.{arith}
use borrow.Author.Tests.{eqb-true}
use Rattle.plain.specs.Lists.{◌is◌}
use Rattle.plain.proofs.Lists.{◌and◌}
use Rattle.rulebook.specs.declared.Order.{Order}
use Rattle.rulebook.specs.Field as Field
use Rattle.rulebook.specs.Ledger.{Ledger, put_day, put_holdings, put_waiting, put_rate, put_requests}
use Rattle.rulebook.specs.Forms.{outcome, moving, silent, open_day, admit, deposit, withdraw, transfer, pay_in, pay_out, instruct, trade, cancel, cycle, confirm, decline, close, set_rate, request_paper, end_request, forms, row_of, used, least, effect}
use Rattle.rulebook.specs.Premise.{RateFits}
use Rattle.rulebook.proofs.ByCall.{Effect, AllForms, HasForm, either_answer, by_form}
use Rattle.rulebook.proofs.Orders.{Accepted, needed}

-- what an order of a form makes of the rate
abbrev Rates : ℕ → Effect → Type 0
Rates n f = (b : Ledger) (o : Order) → (f b o).after.rate ≡ (if n is 18 then o.quantity.0 else b.rate)

all-rates : AllForms (λ n f. Rates n f.effect) 1 forms
unfolding
    forms open_day admit deposit withdraw transfer pay_in pay_out instruct trade cancel cycle confirm decline close set_rate request_paper end_request
    moving silent outcome put_day put_holdings put_waiting put_rate put_requests
all-rates =
    (λ b o. refl) and (λ b o. refl) and (λ b o. refl) and (λ b o. refl) and (λ b o. refl) and (λ b o. refl) and (λ b o. refl) and (λ b o. refl)
    and (λ b o. refl) and (λ b o. refl) and (λ b o. refl) and (λ b o. refl) and (λ b o. refl) and (λ b o. refl) and (λ b o. refl) and (λ b o. refl)
    and (λ b o. refl) and (λ b o. refl) and (λ b o. refl) and (λ b o. refl)
    and (λ b o. either_answer (λ x. x.after.rate ≡ b.rate) b o refl refl) and tt

pub effect-rate : (b : Ledger) (o : Order) → (effect b o).after.rate ≡ (if o.form is 18 then o.quantity.0 else b.rate)
unfolding effect silent outcome
effect-rate b o = by_form (λ n f. Rates n f.effect) all-rates (λ m none b o. go m none b o (m is 18) refl) o.form b o
  where
    -- no form, so not 18
    go : (m : ℕ) → (HasForm m → ⊥) → (b : Ledger) (o : Order) (t : Bool) → (m is 18) ≡ t → b.rate ≡ (if m is 18 then o.quantity.0 else b.rate)
    go m none b o true p = absurd (none (subst HasForm (sym (eqb-true m 18 p)) (unfold forms in (omega arith, omega arith))))
    go m none b o false p = simp p

-- so it is a quantity that a record can hold
pub order-rate : (b : Ledger) (o : Order) → RateFits b.rate → Accepted b o → RateFits (effect b o).after.rate
unfolding used least forms row_of
order-rate b o f a = rw (effect-rate b o) (go (o.form is 18) refl)
  where
    go : (t : Bool) → (o.form is 18) ≡ t → RateFits (if t then o.quantity.0 else b.rate)
    go true p = record { least = (a.ranges.quantity (needed 18 Field.quantity o (eqb-true o.form 18 p) refl)).0; most = a.fits.quantity }
    go false p = f
