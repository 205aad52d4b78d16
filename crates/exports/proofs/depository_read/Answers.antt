-- The fields are told where the record reads.
use Rattle.std.proofs.Common.{refl, sym, ◌∙◌, rules}
use Rattle.exports.proofs.Answers.{read_wrong, read_order, read-refused}
use Rattle.exports.proofs.depository_read.Goals as goal

pub returns-then-fields-ne-FIELD_WORDS : goal.returns-then-fields-ne-FIELD_WORDS
returns-then-fields-ne-FIELD_WORDS c = read_wrong _ _ c.if-fields-ne-FIELD_WORDS.true

pub returns-in-Ok : goal.returns-in-Ok
returns-in-Ok c = read_order _ _ c.if-fields-ne-FIELD_WORDS.false _ c.read.ensures _ _ c.in-Ok.is c.put_fields.ensures

pub returns-in-Err : goal.returns-in-Err
returns-in-Err c = rw c.into.ensures (read-refused _ _ c.if-fields-ne-FIELD_WORDS.false _ c.read.ensures _ c.in-Err.is)
