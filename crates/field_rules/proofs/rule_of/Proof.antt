-- `field_rules::rule_of` meets its contract: each arm and the form's row agree at each place, by one computed test. Assumes nothing.
use mathlib.Core.Path.{◌≡◌, refl, sym, subst, ◌∙◌}
use mathlib.Core.Bool.{Bool, true, false, not, ◌||◌, and-false}
use Prim.Native.Nat.{ℕ, ◌+◌, ◌-◌, ◌≤◌, ◌<◌}
use native.Mathlib.Omega.{arith}
use borrow.Author.Rules.{rules}
use borrow.Author.Tests.{eqb-true, eqb-false, lt-leb}
use lib.ListN.{length}
use Rattle.plain.specs.Lists.{◌is◌, ◌is_not◌, within}
use Rattle.rulebook.specs.Field.{places}
use Rattle.rulebook.specs.Forms.{forms, row_of, used, least}
use Rattle.field_rules.specs.declared.Rule.{Rule}
use Rattle.field_rules.specs.Fields.{has, least_in, RuleOf}
use Rattle.rulebook.proofs.Below.{any, none_passes, differ, same}
use Rattle.field_rules.proofs.rule_of.Statement.{statement}
use Rattle.field_rules.proofs.rule_of.Tie as tie

-- the sets that an arm makes of its fields are not those of the form's row, or there is no such row
apart : (fields form place : ℕ) → Bool
apart fields form place = differ (has fields place) (used form place) || least_in 2 place is_not least form place

wrong : (fields form : ℕ) → Bool
wrong fields form = any (length places) (apart fields form) || not (within 1 (length forms) form) || fields is 0

three : (x y z : Bool) → (x || not y || z) ≡ false → (x ≡ false) × (y ≡ true) × (z ≡ false)
three true y z e = (cc, cc, cc)
three false true z e = (refl, refl, e)
three false false z e = (refl, cc, cc)

two : (x y : Bool) → (x || not y) ≡ false → (x ≡ false) × (y ≡ true)
two true y e = (cc, cc)
two false true e = (refl, refl)
two false false e = (refl, cc)

row-rule : (fields form : ℕ) (r : Rule) → (r.used ≡ fields) × (r.optional ≡ 2) → wrong fields form ≡ false → RuleOf form r
unfolding wrong apart
row-rule fields form r e w =
    let t = three (any (length places) (apart fields form)) (within 1 (length forms) form) (fields is 0) w in
    let at : (place : ℕ) → place < length places → (differ (has fields place) (used form place) ≡ false) × ((least_in 2 place is least form place) ≡ true) =
    λ place l. two (differ (has fields place) (used form place)) (least_in 2 place is least form place)
    (none_passes (length places) (apart fields form) t.0 place l) in
    record {
      none = λ z. absurd (eqb-false _ 0 t.2 (sym e.0 ∙ z));
      some = λ _. (
        t.1,
        record {
          used = λ place l. rw e.0 (same _ _ (at place l).0);
          optional = λ place l. rw e.1 (eqb-true _ _ (at place l).1);
        },
      );
    }

-- one form, and a row of forms that share their fields
one : (n fields form : ℕ) (r : Rule) → form ≡ n → (r.used ≡ fields) × (r.optional ≡ 2) → wrong fields n ≡ false → RuleOf form r
one n fields form r e s w = row-rule fields form r s (subst (λ (k : ℕ). wrong fields k ≡ false) (sym e) w)

several :
    (from count fields form : ℕ) (r : Rule) → from ≤ form → form < from + count → (r.used ≡ fields) × (r.optional ≡ 2)
    → any count (λ k. wrong fields (from + k)) ≡ false → RuleOf form r
several from count fields form r l u s w =
    let e : form ≡ from + (form - from) = omega arith in
    one (from + (form - from)) fields form r e s (none_passes count (λ k. wrong fields (from + k)) w (form - from) (omega arith))

-- no row
none : (form : ℕ) (r : Rule) → r.used ≡ 0 → within 1 (length forms) form ≡ false → RuleOf form r
none form r z w = record { none = λ _. w; some = λ n. absurd (n z) }

returns : tie.Need-returns-in-1
unfolding wrong apart forms row_of used least places
returns c = one 1 _ _ _ c.in-1.is c.uses.ensures refl

returns-2 : tie.Need-returns-in-2
unfolding wrong apart forms row_of used least places
returns-2 c = one 2 _ _ _ c.in-2.is c.uses-in-2.ensures refl

returns-3 : tie.Need-returns-in-3
unfolding wrong apart forms row_of used least places
returns-3 c = one 3 _ _ _ c.in-3.is c.uses-in-3.ensures refl

returns-4 : tie.Need-returns-in-4
unfolding wrong apart forms row_of used least places
returns-4 c = one 4 _ _ _ c.in-4.is c.uses-in-4.ensures refl

returns-5 : tie.Need-returns-in-10
unfolding wrong apart forms row_of used least places
returns-5 c = one 10 _ _ _ c.in-10.is c.uses-in-10.ensures refl

returns-6 : tie.Need-returns-in-11
unfolding wrong apart forms row_of used least places
returns-6 c = one 11 _ _ _ c.in-11.is c.uses-in-11.ensures refl

returns-7 : tie.Need-returns-in-12
unfolding wrong apart forms row_of used least places
returns-7 c = one 12 _ _ _ c.in-12.is c.uses-in-12.ensures refl

returns-8 : tie.Need-returns-in-13
unfolding wrong apart forms row_of used least places
returns-8 c = one 13 _ _ _ c.in-13.is c.uses-in-13.ensures refl

returns-9 : tie.Need-returns-in-14
unfolding wrong apart forms row_of used least places
returns-9 c = one 14 _ _ _ c.in-14.is c.uses-in-14.ensures refl

returns-10 : tie.Need-returns-in-15
unfolding wrong apart forms row_of used least places
returns-10 c = one 15 _ _ _ c.in-15.is c.uses-in-15.ensures refl

returns-11 : tie.Need-returns-in-18
unfolding wrong apart forms row_of used least places
returns-11 c = one 18 _ _ _ c.in-18.is c.uses-in-18.ensures refl

returns-12 : tie.Need-returns-in-19
unfolding wrong apart forms row_of used least places
returns-12 c = one 19 _ _ _ c.in-19.is c.uses-in-19.ensures refl

returns-13 : tie.Need-returns-in-20
unfolding wrong apart forms row_of used least places
returns-13 c = one 20 _ _ _ c.in-20.is c.uses-in-20.ensures refl

returns-14 : tie.Need-returns-in-21
unfolding wrong apart forms row_of used least places
returns-14 c = one 21 _ _ _ c.in-21.is c.uses-in-21.ensures refl

-- past one number more
past : (k n : ℕ) → k ≤ n → (n ≡ k → ⊥) → k + 1 ≤ n
past k n l a = omega (arith, a)

returns-15 : tie.Need-returns-in-5
unfolding wrong apart forms row_of used least places
returns-15 c =
    let rest = c.in-5.in_default-own.rest.0.0.0.0.0.0.0.0.0.0 in
    several 5 5 _ _ _ (past 4 _ (past 3 _ (past 2 _ (past 1 _ c.in-5.if-form-lt1-own.false rest.0.0.0.1) rest.0.0.1) rest.0.1) rest.1)
    c.in-5.if-form-lt10-own.true c.uses-in-5.ensures refl

returns-16 : tie.Need-returns-in-16
unfolding wrong apart forms row_of used least places
returns-16 c =
    let rest = c.in-16.in_default-own.rest.0.0.0.0 in
    let twelve = past 12 _ (past 11 _ (past 10 _ c.in-16.if-form-lt10-own.false rest.0.0.0.0.0.1) rest.0.0.0.0.1) rest.0.0.0.1 in
    several 16 2 _ _ _ (past 15 _ (past 14 _ (past 13 _ twelve rest.0.0.1) rest.0.1) rest.1) c.in-16.if-form-lt18-own.true c.uses-in-16.ensures refl

returns-17 : tie.Need-returns-in_default
unfolding forms
returns-17 c = none _ _ refl (rw (lt-leb 1 _ c.in_default.if-form-lt1-own.true))

returns-18 : tie.Need-returns-in_default-2
unfolding forms
returns-18 c =
    let rest = c.in_default.in_default-own.rest in
    let twenty = past 19 _ (past 18 _ c.in_default.if-form-lt18-own.false rest.0.0.0.1) rest.0.0.1 in
    none _ _ refl (simp (lt-leb _ _ (past 21 _ (past 20 _ twenty rest.0.1) rest.1), and-false))

pub rule_of_spec : {M : Type 1} → statement M
rule_of_spec =
    tie.close
    (tie.spec
    (λ c κs. search rules)
    (λ c κs. search rules)
    (λ c κs. search rules)
    (λ c κs. search rules)
    (λ c κs. search rules)
    (λ c κs. search rules)
    (λ c κs. search rules)
    (λ c κs. search rules)
    (λ c κs. search rules)
    (λ c κs. search rules)
    (λ c κs. search rules)
    (λ c κs. search rules)
    (λ c κs. search rules)
    (λ c κs. search rules)
    (λ c κs. search rules)
    (λ c κs. search rules)
    returns returns-2 returns-3 returns-4 returns-5 returns-6 returns-7 returns-8 returns-9 returns-10 returns-11 returns-12
    returns-13 returns-14 returns-15 returns-16 returns-17 returns-18)
