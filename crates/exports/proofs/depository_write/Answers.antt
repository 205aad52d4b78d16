-- The area has the order's record where the writer writes it.
use Rattle.std.proofs.Common.{ap, refl, sym, ◌∙◌, rules}
use Rattle.rulebook.specs.Record.{written_number}
use Rattle.exports.proofs.Answers.{write_wrong, write_answered}
use Rattle.exports.proofs.depository_write.Goals as goal

pub returns-then-fields-ne-FIELD_WORDS : goal.returns-then-fields-ne-FIELD_WORDS
returns-then-fields-ne-FIELD_WORDS c = write_wrong _ _ c.if-fields-ne-FIELD_WORDS.true

pub returns-in-Ok : goal.returns-in-Ok
unfolding written_number
returns-in-Ok c =
    write_answered _ _ c.if-fields-ne-FIELD_WORDS.false _ _ _ _ c.order_of.ensures c.write.ensures (ap written_number c.in-Ok.is)

pub returns-in-Err : goal.returns-in-Err
unfolding written_number
returns-in-Err c =
    write_answered _ _ c.if-fields-ne-FIELD_WORDS.false _ _ _ _ c.order_of.ensures c.write.ensures
    (ap written_number c.in-Err.is ∙ sym c.into.ensures)
