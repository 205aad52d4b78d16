-- The first place that a search over the places finds.
use Rattle.std.proofs.Common.{◌∙◌, refl, rules, tests}
use Rattle.std.proofs.lemmas.Iterator.{YieldsList-from_range}
use Rattle.std.proofs.lemmas.Iterator.Search.{find_from_yields_List}
use Rattle.plain.specs.Lists.{◌is◌}
use Rattle.rulebook.specs.Answers.{number_found}
use Rattle.field_rules.specs.Fields.{field_refusal}
use Rattle.field_rules.proofs.FieldsBelow.{first_found}
use Rattle.field_rules.proofs.RuledFields.place_with.Goals as goal

pub returns : goal.returns
returns c =
    let found =
    find_from_yields_List (λ place. field_refusal c.args.self.now.fields.now place is number_found c.args.refusal) _ _ c.find.result c.find.ensures.ran
    (YieldsList-from_range 0 19 19 refl refl) (λ x b q k. search (rules, tests)) in
    c.unwrap_or.ensures ∙ first_found _ c.find.result found
