-- Each piece of the file is the next record, and is called.
use Rattle.std.proofs.Common.{rules, arith, refl, ◌∙◌}
use Rattle.file.proofs.Walking.{piece_next}
use Rattle.printing.proofs.AnswerLines.{walked_none, walked_all, walked_more, fewer}
use Rattle.printing.proofs.answers.put_answers.Goals as goal

pub loop-octets-init : goal.loop-octets-init
loop-octets-init g c = record {
  can_next = search rules;
  is_finite = tt;
  size = search rules;
  walked = rw (c.into_iter-octets-iterator.ensures.into_iter_gives, c.records-octets-items.ensures.rest) (walked_none _ _ _ c.requires.0);
  book = refl;
  area = refl;
}

pub put_answer-requires : goal.put_answer-requires
put_answer-requires g c =
    let l = c.loop-octets.invariant in
    let next = piece_next c.loop-octets.octets-iterator c.in-Some.octets c.next.new.self l.size c.in-Some.ensures.steps in
    (search rules, (l.walked.answered.kept, omega (arith, fewer l.walked _ _ next, l.walked.room)))

pub overflow_add-n : goal.overflow_add-n
overflow_add-n g c =
    let l = c.loop-octets.invariant in
    let next = piece_next c.loop-octets.octets-iterator c.in-Some.octets c.next.new.self l.size c.in-Some.ensures.steps in
    omega (arith, fewer l.walked _ _ next, l.walked.counted)

pub loop-octets-preserved : goal.loop-octets-preserved
loop-octets-preserved g c =
    let l = c.loop-octets.invariant in
    let put = c.put_answer in
    let steps = c.in-Some.ensures.steps in
    let next = piece_next c.loop-octets.octets-iterator c.in-Some.octets c.next.new.self l.size steps in
    record {
      can_next = search rules;
      is_finite = tt;
      size = steps.0 ∙ l.size;
      walked = walked_more l.walked _ _ next _ put.ensures.answered put.ensures.upper_bound;
      book = put.auto.book ∙ l.book;
      area = put.auto.area ∙ l.area;
    }

pub returns : goal.returns
returns g c = walked_all c.loop-octets.invariant.walked c.in-None.ensures.steps.1.0
