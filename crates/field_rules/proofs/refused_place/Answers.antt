-- The place of the form, or the first whose field is refused as the fields are.
use Rattle.std.proofs.Common.{◌≡◌, ℕ, ap, refl, ◌∙◌}
use Rattle.std.specs.Prelude.{Ok, Err}
use Rattle.std.specs.Result.{result_err}
use Rattle.plain.specs.Lists.{◌is◌}
use Rattle.rulebook.specs.Answers.{Written, number_in, number_found}
use Rattle.rulebook.specs.Field.{places}
use Rattle.field_rules.specs.Fields.{field_refusal, first_place, fields_refusal, refused_place}
use Rattle.field_rules.proofs.refused_place.Goals as goal

pub returns-in-None : goal.returns-in-None
unfolding refused_place
returns-in-None c = rw c.in-None.ensures

found : (checked : Written) → number_found (result_err checked) ≡ number_in checked
found (Ok value) = refl
found (Err refusal) = refl

pub returns-in-Some : goal.returns-in-Some
unfolding refused_place fields_refusal
returns-in-Some c =
    let fields = c.in-Some.ruled.fields.now in
    let number = ap number_found c.err.ensures.value ∙ found c.check.result in
    rw (c.in-Some.ensures.0, ← c.in-Some.ensures.1, ← c.check.ensures)
    (c.place_with.ensures ∙ ap (λ (n : ℕ). first_place (λ place. field_refusal fields place is n) places) number)
