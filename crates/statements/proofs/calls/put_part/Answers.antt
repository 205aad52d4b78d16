-- Each piece of the file is the next record, and is called where its lines surely fit.
use Rattle.std.proofs.Common.{rules, arith, refl, ◌∙◌}
use Rattle.file.proofs.Walking.{piece_next}
use Rattle.statements.proofs.Walks.{walked_none, walked_more, fewer}
use Rattle.statements.proofs.calls.put_part.Goals as goal

pub loop-octets-init : goal.loop-octets-init
loop-octets-init g c = record {
  can_next = search rules;
  is_finite = tt;
  size = search rules;
  walked = rw (c.into_iter-octets-iterator.ensures.into_iter_gives, c.records-octets-items.ensures.rest) (walked_none _ _ _ c.requires.0);
  book = refl;
  area = refl;
}

pub loop-octets-preserved : goal.loop-octets-preserved
loop-octets-preserved g c =
    let l = c.loop-octets.invariant in
    let put = c.put_record in
    let steps = c.in-Some.ensures.steps in
    let next = piece_next c.loop-octets.octets-iterator c.in-Some.octets c.next.new.self l.size steps in
    record {
      can_next = search rules;
      is_finite = tt;
      size = steps.0 ∙ l.size;
      walked = walked_more l.walked _ _ steps.1.0 next _ put.ensures.stated;
      book = put.auto.book ∙ l.book;
      area = put.auto.area ∙ l.area;
    }

pub overflow_add-part-in-loop-octets : goal.overflow_add-part-in-loop-octets
overflow_add-part-in-loop-octets g c =
    let l = c.loop-octets.invariant in
    let steps = c.in-Some.ensures.steps in
    let next = piece_next c.loop-octets.octets-iterator c.in-Some.octets c.next.new.self l.size steps in
    omega (arith, fewer l.walked _ _ steps.1.0 next, l.walked.counted, c.requires.1)
