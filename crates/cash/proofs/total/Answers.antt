-- `cash::total`: one member more.
use Rattle.std.proofs.Common.{◌≡◌, ◌+◌, ℕ, arith, ap, ◌∙◌}
use Rattle.plain.specs.Lists.{sum_below}
use Rattle.cash.specs.Amounts.{amount_of, total_in}
use Rattle.cash.proofs.StoredCash.{total-none, total-more, total-fits}
use Rattle.cash.proofs.total.Goals as goal

pub loop-member-init : goal.loop-member-init
loop-member-init c = total-none c.args.cash.now c.args.currency

pub overflow_add-sum-in-loop-member : goal.overflow_add-sum-in-loop-member
overflow_add-sum-in-loop-member c =
    omega (
      arith,
      c.requires.3,
      total-fits c.args.cash.now c.requires.0 c.args.currency c.requires.1 c.requires.2 c.loop-member.member (omega arith) c.loop-member.sum
          c.loop-member.invariant,
    )

pub loop-member-preserved : goal.loop-member-preserved
loop-member-preserved c =
    total-more c.args.cash.now c.requires.0 c.args.currency c.requires.1 c.requires.2 c.loop-member.member (omega arith) c.loop-member.sum
    c.loop-member.invariant

pub returns : goal.returns
unfolding total_in
returns c =
    let all : c.loop-member.member ≡ 64 = omega arith in
    c.loop-member.invariant ∙ ap (λ (k : ℕ). sum_below k (λ n. amount_of c.args.cash.now (n + 1) c.args.currency)) all
