-- What some field is refused for applies to the fields.
use Rattle.std.proofs.Common.{◌∙◌, sym}
use Rattle.field_rules.proofs.FieldsBelow.{unused_found, outside_found}
use Rattle.field_rules.proofs.RuledFields.check.Goals as goal

pub returns-then-has : goal.returns-then-has
returns-then-has c = rw (sym (unused_found c.args.self.now.fields.now) ∙ sym c.has.ensures ∙ c.if-has.true)

pub returns-then-has-2 : goal.returns-then-has-2
returns-then-has-2 c =
    let fields = c.args.self.now.fields.now in
    rw (sym (unused_found fields) ∙ sym c.has.ensures ∙ c.if-has.false, sym (outside_found fields) ∙ sym c.has-2.ensures ∙ c.if-has-2.true)

pub returns : goal.returns
returns c =
    let fields = c.args.self.now.fields.now in
    rw (sym (unused_found fields) ∙ sym c.has.ensures ∙ c.if-has.false, sym (outside_found fields) ∙ sym c.has-2.ensures ∙ c.if-has-2.false)
