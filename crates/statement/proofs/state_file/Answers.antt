-- A part has records, or the buffer was printed before it.
use Rattle.std.proofs.Common.{rules, ◌≡◌, ℕ, ◌-◌, List, [], length, take, drop, refl, sym, ◌∙◌, arith, length-drop, take_all}
use Rattle.file.proofs.Walking.{records_length}
use Rattle.statement.proofs.Parts.{walked_none, walked_printed, walked_length, walked_all, walked_part, part-less}
use Rattle.statement.proofs.state_file.Goals as goal

pub loop-rest-init : goal.loop-rest-init
loop-rest-init c = (walked_none _ _ _ _ _ c.requires.0, refl, refl)

pub put_part-part-requires : goal.put_part-part-requires
put_part-part-requires c =
    let before = c.loop-rest.invariant in (
      search rules,
      (
        before.0.stated.kept,
        omega (arith, before.0.stated.numbered, walked_length before.0, records_length c.args.file.now, c.requires.1, c.requires.2),
      ),
    )

pub returns-then-rest-part : goal.returns-then-rest-part
returns-then-rest-part c =
    let walked = walked_part c.loop-rest.invariant.0 c.put_part-part.ensures in
    record {
      records = walked.records;
      left = [];
      first = walked_all walked (length-drop _ c.loop-rest.rest.now ∙ omega arith);
      all = λ e. refl;
      stated = walked.stated;
    }

-- what stands behind a part, as the slice that is lent next
behind : (size : ℕ) (rest : List ℕ) → drop size rest ≡ take (length rest - size) (drop size rest)
behind size rest = sym (take_all (length rest - size) (drop size rest) (omega (arith, length-drop size rest)))

pub returns-in-Err : goal.returns-in-Err
returns-in-Err c =
    let walked = walked_printed (walked_part c.loop-rest.invariant.0 c.put_part-part.ensures) in
    record {
      records = walked.records;
      left = _;
      first = walked.left;
      all = λ e. cc;
      stated = rw c.clear.ensures walked.stated;
    }

pub loop-rest-smaller : goal.loop-rest-smaller
loop-rest-smaller c =
    let part = c.put_part-part in
    let less = part-less c.loop-rest.invariant.0 part.ensures c.if-rest-part.false in
    let fell = rw (behind part.result.size c.loop-rest.rest.now) at less in
    rw c.clear.ensures (omega (arith, fell))

pub loop-rest-preserved : goal.loop-rest-preserved
loop-rest-preserved c =
    let before = c.loop-rest.invariant in
    let part = c.put_part-part in
    let walked = walked_printed (walked_part before.0 part.ensures) in (
      rw c.clear.ensures (rw (behind part.result.size c.loop-rest.rest.now) at walked),
      part.auto.book ∙ before.1,
      part.auto.area ∙ before.2,
    )
