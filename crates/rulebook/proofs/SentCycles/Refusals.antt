-- What an answer to a cycle meets. Assumes nothing.
use Rattle.rulebook.specs.AccountTypes.{wrong_types}
use Rattle.rulebook.specs.Refusals.{wrong_cycle, awaits_answer, wrong_security, wrong_pair, wrong_parties, wrong_days, wrong_reference, wrong_cancel, cancels_sent, wrong_request, ends_too_soon, too_many_requests, too_little, over_ceiling, day_tests, order_tests, item_tests, request_tests, room_tests, refusals}
use Rattle.rulebook.specs.SentCycles.{AnswerRefusals}
use Rattle.rulebook.proofs.Sizes.{answer_space}

pub answer_refusals_lem : AnswerRefusals
unfolding
    AnswerRefusals refusals day_tests order_tests item_tests request_tests room_tests wrong_cycle awaits_answer wrong_security wrong_pair wrong_types wrong_parties
    wrong_days wrong_reference wrong_cancel cancels_sent wrong_request ends_too_soon too_many_requests too_little over_ceiling
answer_refusals_lem b o p e = simp (e, answer_space b o e p.sizes)
