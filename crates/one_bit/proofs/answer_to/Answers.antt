-- The reader's answer, by its number.
use Rattle.std.proofs.Common.{◌∙◌}
use Rattle.rulebook.specs.Record.{read_number}
use Rattle.one_bit.specs.Changes.{changed, answer_to}
use Rattle.one_bit.proofs.answer_to.Goals as goal

pub returns-in-Ok : goal.returns-in-Ok
unfolding answer_to changed read_number
returns-in-Ok c = c.in-Ok.ensures.number

pub returns-in-Err : goal.returns-in-Err
unfolding answer_to changed read_number
returns-in-Err c = c.into.ensures ∙ c.in-Err.ensures.number
