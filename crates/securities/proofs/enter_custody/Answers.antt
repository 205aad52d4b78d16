-- `securities::enter_custody`: the two counts of the row that the search finds.
use Rattle.std.proofs.Common.{◌+◌, ◌-◌, arith, sym}
use Rattle.rulebook.specs.Ledger.{fresh}
use Rattle.rulebook.specs.Movements.{debit}
use Rattle.words.proofs.Tables.{place_at}
use Rattle.securities.proofs.StoredSecurities.{outside-here}
use Rattle.securities.proofs.StoredCounts.{held-as, both_stored, both_nowhere}
use Rattle.securities.proofs.enter_custody.Goals as goal

pub overflow_sub-securities : goal.overflow_sub-securities
overflow_sub-securities c =
    let there = place_at _ _ _ (sym c.in-Some.ensures.place) in
    omega (arith, c.requires.1 fresh.holdings, outside-here c.args.securities.now c.args.code c.requires.0 c.in-Some.i there.0 there.1 fresh.holdings)

pub overflow_add-securities-in-Some-2 : goal.overflow_add-securities-in-Some-2
overflow_add-securities-in-Some-2 c =
    omega (
      arith,
      c.requires.2 fresh.holdings,
      held-as c.args.securities.now c.requires.0 c.args.code c.in-Some.i (sym c.in-Some.ensures.place) (λ n. n - c.args.quantity.0)
          (λ n. n + c.args.quantity.0) fresh.holdings,
    )

pub returns-in-Some : goal.returns-in-Some
unfolding debit
returns-in-Some c =
    both_stored c.args.securities.now c.requires.0 c.args.code c.in-Some.i (sym c.in-Some.ensures.place) (λ n. n - c.args.quantity.0)
    (λ n. n + c.args.quantity.0)

pub returns-in_default : goal.returns-in_default
unfolding debit
returns-in_default c = (
  c.requires.0,
  both_nowhere c.args.securities.now c.requires.0 c.args.code (sym c.in_default.ensures.place) (λ n. n - c.args.quantity.0) (λ n. n + c.args.quantity.0),
)
