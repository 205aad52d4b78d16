-- Whether a refusal applies to one of the fields.
use Rattle.std.proofs.Common.{refl, rules}
use Rattle.std.proofs.lemmas.Iterator.{YieldsList-from_range}
use Rattle.std.proofs.lemmas.Iterator.Search.{any_from_yields_List}
use Rattle.std.proofs.Common.{tests}
use Rattle.plain.specs.Lists.{◌is◌}
use Rattle.rulebook.specs.Answers.{number_of}
use Rattle.rulebook.specs.Field.{places}
use Rattle.field_rules.specs.Fields.{field_refusal}
use Rattle.field_rules.proofs.RuledFields.has.Goals as goal

pub returns : goal.returns
unfolding places
returns c =
    any_from_yields_List (λ place. field_refusal c.args.self.now.fields.now place is number_of c.args.refusal) _ _ _ c.any.ensures.ran
    (YieldsList-from_range 0 19 19 refl refl) (λ x b q k. search (rules, tests))
