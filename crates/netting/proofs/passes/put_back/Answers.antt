-- `netting::passes::put_back` meets its contract: a pass that changes nothing is the last, and each other leaves fewer out. Assumes nothing.
use Rattle.std.proofs.Common.{◌^◌, ◌<◌, length, rules, arith}
use Rattle.marks.specs.Marks.{is_on}
use Rattle.marks.proofs.Marking.{count_most}
use Rattle.netting.proofs.Repeating.{more-on, starts, ends, again}
use Rattle.netting.proofs.passes.put_back.Goals as goal

pub loop-marks-init : goal.loop-marks-init
loop-marks-init g c = (c.requires.0.1, c.requires.1, (λ es d. starts _ _ es _ d), c.ranges.kept.fits)

pub one_pass-more-requires : goal.one_pass-more-requires
one_pass-more-requires g c = ((c.requires.0.0, c.loop-marks.invariant.0), c.loop-marks.invariant.1)

pub returns-then-more-marks : goal.returns-then-more-marks
returns-then-more-marks g c = λ es d.
    let l = c.loop-marks in
    ends g.b _ es l.marks c.one_pass-more.result (l.invariant.2 es d) c.one_pass-more.ensures.passed c.if-more-marks.true

pub loop-marks-smaller : goal.loop-marks-smaller
loop-marks-smaller g c =
    let l = c.loop-marks in
    let e = c.one_pass-more.ensures.passed in
    let n = length g.b.waiting in
    let small : c.one_pass-more.result < 2 ^ 64 = search rules in
    let more =
    more-on g.b _ l.marks c.one_pass-more.result l.invariant.3 small l.invariant.0 e.started c.if-more-marks.false
    (λ k h. e.kept k (omega (arith, h, c.requires.0.0.size)))
    in
    omega (arith, more, count_most (is_on c.one_pass-more.result) n)

pub loop-marks-preserved : goal.loop-marks-preserved
loop-marks-preserved g c =
    let l = c.loop-marks in
    let e = c.one_pass-more.ensures in
    let small : c.one_pass-more.result < 2 ^ 64 = search rules in (
      e.passed.started,
      e.figured_2,
      (λ es d. again g.b _ es l.marks c.one_pass-more.result (l.invariant.2 es d) e.passed l.invariant.3 small l.invariant.0 c.if-more-marks.false),
      small,
    )
