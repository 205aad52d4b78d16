-- A book with room for one more item, and so for one more account, lacks space for no form but an admission. Assumes nothing.
use mathlib.Core.Path.{◌≡◌, refl, sym, ◌∙◌}
use mathlib.Core.Bool.{Bool, true, false, and-false}
use native.Mathlib.Omega.{arith}
use borrow.Author.Tests.{eqb-true}
use lib.ListN.{length}
use Rattle.plain.proofs.Tests.{neither}
use Rattle.plain.specs.Lists.{◌is◌, ◌below◌, within}
use Rattle.rulebook.specs.AccountTypes.{is_outside}
use Rattle.rulebook.specs.Ledger.{Ledger}
use Rattle.rulebook.specs.Premise.{Premise}
use Rattle.rulebook.specs.Refusals.{no_space}
use Rattle.rulebook.specs.declared.Order.{Order}
use Rattle.rulebook.proofs.ByCall.{HasForm}
use Rattle.rulebook.proofs.Sizes.{never_grows_lem}
use Rattle.rulebook.proofs.Space.{deposit-space, instruct-space, trade-space, leaving-space}
use Rattle.checking.specs.Given.{WasRead}
use Rattle.room_tests.specs.Room.{is_full, is_list_full, SidesPassed}
use Rattle.rulebook.proofs.Within.{instruction}
use Rattle.room_tests.proofs.Growth.{never}
use Rattle.room_tests.proofs.Between.{transfers, requests, ends-in_paper}
use Rattle.checking.proofs.Orders.{ranges, some-quantity}

-- the last form that can lack space, in a book without room for one more item
pub last :
    (b : Ledger) (o : Order) → Premise b → is_list_full b ≡ true → HasForm o.form
    → (o.form is 2) ≡ false → (o.form is 3) ≡ false → within 5 9 o.form ≡ false → within 12 13 o.form ≡ false → (o.form is 19) ≡ false
    → (o.form is 20) ≡ false → no_space b o ≡ (o.form is 14)
last b o p full h two three five twelve nineteen twenty = go (o.form is 14) refl
  where
    go : (t : Bool) → (o.form is 14) ≡ t → no_space b o ≡ (o.form is 14)
    go true e = trade-space b o p.sizes (eqb-true o.form 14 e) ∙ full ∙ sym e
    go false e = never_grows_lem b o (never o.form h two three five twelve e nineteen twenty) p.sizes ∙ sym e

module _ (b : Ledger) (o : Order) (w : WasRead o) (p : Premise b) (passed : SidesPassed b o) where
  pub roomy : (o.form is 2) ≡ false → is_list_full b ≡ false → no_space b o ≡ false
  roomy two room = on_19 (o.form is 19) refl
    where
      full : is_full b ≡ false
      full = (neither (63 below length b.waiting) (is_full b) room).1

      on_14 :
          (t : Bool) → (o.form is 14) ≡ t → (o.form is 19) ≡ false → (o.form is 20) ≡ false → (o.form is 3) ≡ false → within 5 9 o.form ≡ false
          → within 12 13 o.form ≡ false → no_space b o ≡ false
      on_14 true e nineteen twenty three five twelve = trade-space b o p.sizes (eqb-true o.form 14 e) ∙ room
      on_14 false e nineteen twenty three five twelve =
          never_grows_lem b o (never o.form (ranges o w).form two three five twelve e nineteen twenty) p.sizes

      on_12 :
          (t : Bool) → within 12 13 o.form ≡ t → (o.form is 19) ≡ false → (o.form is 20) ≡ false → (o.form is 3) ≡ false → within 5 9 o.form ≡ false
          → no_space b o ≡ false
      on_12 true e nineteen twenty three five = instruct-space b o p.sizes (instruction o.form e) ∙ simp (room, and-false)
      on_12 false e nineteen twenty three five = on_14 (o.form is 14) refl nineteen twenty three five e

      on_5 : (t : Bool) → within 5 9 o.form ≡ t → (o.form is 19) ≡ false → (o.form is 20) ≡ false → (o.form is 3) ≡ false → no_space b o ≡ false
      on_5 true e nineteen twenty three = transfers b o w p passed e ∙ simp (full, and-false)
      on_5 false e nineteen twenty three = on_12 (within 12 13 o.form) refl nineteen twenty three e

      on_3 : (t : Bool) → (o.form is 3) ≡ t → (o.form is 19) ≡ false → (o.form is 20) ≡ false → no_space b o ≡ false
      on_3 true e nineteen twenty =
          let f : o.form ≡ 3 = eqb-true o.form 3 e in
          deposit-space b o p.sizes f (some-quantity o w (omega arith) (omega arith)) ∙ simp (full, and-false)
      on_3 false e nineteen twenty = on_5 (within 5 9 o.form) refl nineteen twenty e

      -- an ending, in paper or outside
      ending : (t : Bool) → (is_outside o.credited.typ) ≡ t → o.form ≡ 20 → no_space b o ≡ false
      ending true t e = leaving-space b o p.sizes e t
      ending false t e = ends-in_paper b o w p passed e t ∙ simp (full, and-false)

      on_20 : (t : Bool) → (o.form is 20) ≡ t → (o.form is 19) ≡ false → no_space b o ≡ false
      on_20 true e nineteen = ending (is_outside o.credited.typ) refl (eqb-true o.form 20 e)
      on_20 false e nineteen = on_3 (o.form is 3) refl nineteen e

      on_19 : (t : Bool) → (o.form is 19) ≡ t → no_space b o ≡ false
      on_19 true e = requests b o w p passed (eqb-true o.form 19 e) ∙ simp (full, and-false)
      on_19 false e = on_20 (o.form is 20) refl e
