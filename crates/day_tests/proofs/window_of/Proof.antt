-- `day_tests::window_of` meets its contract: each test picks what the form's row has. Assumes nothing.
use mathlib.Core.Bool.{false, ◌||◌}
use mathlib.Core.Path.{◌≡◌, sym, ap₂, ◌∙◌}
use borrow.Author.Rules.{rules}
use borrow.Author.Tests.{eq-eqb, ne_eqb}
use lib.ListN.{get_or}
use Rattle.plain.specs.Lists.{◌is◌, within}
use Rattle.rulebook.specs.Windows.{by_kind, office_end, cycle_minutes}
use Rattle.day_tests.specs.Window.{payment_end, answer_end}
use Rattle.day_tests.proofs.Windows.{picked}
use Rattle.day_tests.proofs.window_of.Statement.{statement}
use Rattle.day_tests.proofs.window_of.Tie as tie

-- ---- places: where the tests so far do not apply

abbrev opened : tie.Else-form-eq1 → tie.Start
opened c = c.before

abbrev moved : tie.Else-is_within → tie.Else-form-eq1
moved c = c.before.before.before

abbrev instructed : tie.Else-is_within-2 → tie.Else-is_within
instructed c = c.before.before

not_1 : (c : tie.Else-form-eq1) → ((opened c).args.order.form is 1) ≡ false
not_1 c = ne_eqb _ _ c.if-form-eq1.false

not-moved : (c : tie.Else-is_within) → (within 3 9 (opened (moved c)).args.order.form || within 19 20 (opened (moved c)).args.order.form) ≡ false
not-moved c = sym (ap₂ ◌||◌ c.before.before.is_within.ensures c.before.is_within-2.ensures) ∙ c.if-is_within.false

not-12-13 : (c : tie.Else-is_within-2) → within 12 13 (opened (moved (instructed c))).args.order.form ≡ false
not-12-13 c = sym c.before.is_within-3.ensures ∙ c.if-is_within-2.false

not_16 : (c : tie.Else-form-eq16) → ((opened (moved (instructed c.before))).args.order.form is 16) ≡ false
not_16 c = ne_eqb _ _ c.if-form-eq16.false

not-17 : (c : tie.Else-form-eq17) → ((opened (moved (instructed c.before.before))).args.order.form is 17) ≡ false
not-17 c = ne_eqb _ _ c.if-form-eq17.false

-- ---- each test

returns : tie.Need-returns-then-form-eq1
returns c =
    let s = c.before.before in
    let w = picked s.args.day s.args.order s.requires 0 480 (simp (eq-eqb _ _ c.before.if-form-eq1.true)) in
    (c.between.ensures.0 ∙ w.0, c.between.ensures.1 ∙ w.1)

returns-2 : tie.Need-returns-then-is_within
returns-2 c =
    let here = c.before.before in
    let one = here.before.before.before in
    let s = opened one in
    let e = sym (ap₂ ◌||◌ here.before.before.is_within.ensures here.before.is_within-2.ensures) ∙ here.if-is_within.true in
    let w = picked s.args.day s.args.order s.requires 510 (by_kind s.args.day.kind 870 750) (simp (not_1 one, e)) in
    (c.between-then-is_within.ensures.0 ∙ w.0, c.between-then-is_within.ensures.1 ∙ c.before.by_kind.ensures ∙ w.1)

returns-3 : tie.Need-returns-then-is_within-2
returns-3 c =
    let here = c.before.before in
    let two = here.before.before in
    let s = opened (moved two) in
    let e = sym here.before.is_within-3.ensures ∙ here.if-is_within-2.true in
    let w =
    picked s.args.day s.args.order s.requires 480 (payment_end s.args.day s.args.order.settlement_day)
    (simp (not_1 (moved two), not-moved two, e)) in
    (c.between-then-is_within-2.ensures.0 ∙ w.0, c.between-then-is_within-2.ensures.1 ∙ c.before.payment_end.ensures ∙ w.1)

returns-4 : tie.Need-returns-then-form-eq16
returns-4 c =
    let here = c.before.before.before in
    let three = here.before in
    let two = instructed three in
    let s = opened (moved two) in
    let w =
    picked s.args.day s.args.order s.requires (get_or (cycle_minutes s.args.day.kind) s.args.day.cycles 0) (office_end s.args.day.kind)
    (simp (not_1 (moved two), not-moved two, not-12-13 three, eq-eqb _ _ here.if-form-eq16.true)) in
    (c.between-then-form-eq16.ensures.0 ∙ c.before.before.cycle_minute.ensures ∙ w.0, c.between-then-form-eq16.ensures.1 ∙ c.before.office_end.ensures ∙ w.1)

returns-5 : tie.Need-returns-then-form-eq17
returns-5 c =
    let here = c.before.before in
    let four = here.before in
    let three = four.before in
    let two = instructed three in
    let s = opened (moved two) in
    let w =
    picked s.args.day s.args.order s.requires (office_end s.args.day.kind) 1439
    (simp (not_1 (moved two), not-moved two, not-12-13 three, not_16 four, eq-eqb _ _ here.if-form-eq17.true)) in
    (c.between-then-form-eq17.ensures.0 ∙ c.before.office_end-then-form-eq17.ensures ∙ w.0, c.between-then-form-eq17.ensures.1 ∙ w.1)

returns-6 : tie.Need-returns-then-form-eq21
returns-6 c =
    let here = c.before.before in
    let five = here.before in
    let four = five.before in
    let three = four.before in
    let two = instructed three in
    let s = opened (moved two) in
    let w =
    picked s.args.day s.args.order s.requires 480 (answer_end s.args.day)
    (simp (not_1 (moved two), not-moved two, not-12-13 three, not_16 four, not-17 five, eq-eqb _ _ here.if-form-eq21.true)) in
    (c.between-then-form-eq21.ensures.0 ∙ w.0, c.between-then-form-eq21.ensures.1 ∙ c.before.answer_end.ensures ∙ w.1)

returns-7 : tie.Need-returns
returns-7 c =
    let here = c.before.before in
    let five = here.before in
    let four = five.before in
    let three = four.before in
    let two = instructed three in
    let s = opened (moved two) in
    let w =
    picked s.args.day s.args.order s.requires 480 (office_end s.args.day.kind)
    (simp (not_1 (moved two), not-moved two, not-12-13 three, not_16 four, not-17 five, ne_eqb _ _ here.if-form-eq21.false)) in
    (c.between-2.ensures.0 ∙ w.0, c.between-2.ensures.1 ∙ c.before.office_end-2.ensures ∙ w.1)

pub window_of_spec : {M : Type 1} → statement M
window_of_spec =
    tie.close
    (tie.spec
    (λ c κs. search rules) returns
    (λ c κs. search rules) (λ c κs. search rules) (λ c κs. search rules) (λ c κs. search rules) returns-2
    (λ c κs. search rules) (λ c κs. search rules) (λ c κs. search rules) returns-3
    (λ c κs. search rules) (λ c κs. search rules) (λ c κs. search rules) returns-4
    (λ c κs. search rules) (λ c κs. search rules) returns-5
    (λ c κs. search rules) (λ c κs. search rules) returns-6
    (λ c κs. search rules) (λ c κs. search rules) returns-7)
