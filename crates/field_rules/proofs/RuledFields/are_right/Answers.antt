-- No field before the last ones is refused, and the last ones are 0.
use Rattle.std.proofs.Common.{◌∙◌, refl, rules, tests, sym}
use Rattle.std.proofs.lemmas.Iterator.{YieldsList-from_range}
use Rattle.std.proofs.lemmas.Iterator.Search.{all_from_yields_List}
use Rattle.plain.specs.Lists.{◌is◌}
use Rattle.field_rules.specs.Fields.{field_refusal}
use Rattle.field_rules.proofs.FieldsBelow.{none_refused}
use Rattle.field_rules.proofs.RuledFields.are_right.Goals as goal

pub returns-then-last_are_zero : goal.returns-then-last_are_zero
returns-then-last_are_zero c =
    let all =
    all_from_yields_List (λ place. field_refusal c.args.self.now.fields.now place is 0) _ _ c.all.result c.all.ensures.ran
    (YieldsList-from_range 0 15 15 refl refl) (λ x b q k. search (rules, tests)) in
    λ e.
    let none = none_refused c.args.self.now.fields.now (sym all ∙ e) (sym c.last_are_zero.ensures ∙ c.if-last_are_zero.true) in
    rw (none.0, none.1)
