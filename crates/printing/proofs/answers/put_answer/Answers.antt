-- The call, and its line.
use Rattle.printing.proofs.AnswerLines.{answered_one}
use Rattle.printing.proofs.answers.put_answer.Goals as goal

pub returns-clause-answered : goal.returns-clause-answered
returns-clause-answered g c =
    let call = c.call-answer.ensures in
    answered_one _ _ _ _ _ _ _ _ _ call.kept call.answered call.ledger call.written c.put_answer_line.ensures.put
