-- The bit, the least and the most are those of the form.
use Rattle.std.proofs.Common.{◌∙◌, ℕ, ap, List, get_or}
use Rattle.rulebook.specs.Field.{places}
use Rattle.rulebook.specs.Forms.{most}
use Rattle.field_rules.specs.Fields.{field_refusal}
use Rattle.field_rules.proofs.FieldsBelow.{at_place}
use Rattle.field_rules.proofs.RuledFields.refusal_at.Goals as goal

pub returns : goal.returns
unfolding field_refusal places
returns c =
    let rules = c.args.self.now.by_form in
    let place : ℕ = c.args.place in
    let low = c.least_of.ensures ∙ rules.sets.optional place c.requires in
    let bit = c.is_in.ensures ∙ rules.sets.used place c.requires in
    let top = ap (λ (m : List ℕ). get_or m place 0) rules.most ∙ at_place (most _) place c.requires in
    c.field_refusal.ensures ∙ simp (bit, low, top)
