-- `slots::fill_shares` meets its contract: what is asked of each place is what its trade moves of shares. Assumes nothing.
use Rattle.std.proofs.Common.{ℕ, ◌<◌, ◌∙◌, length, rules, arith}
use Rattle.book.specs.Meaning.{ledger_of}
use Rattle.marks.specs.Marks.{item_in}
use Rattle.legs.specs.Filled.{ShareLeg, leg_in}
use Rattle.slots.proofs.fill_shares.Goals as goal

pub returns : goal.returns
returns c =
    let b = ledger_of c.args.book.now in
    let l = c.fill_legs.new.legs in
    let e = c.fill_legs.ensures in
    let many = c.items.ensures in
    let leg : (k : ℕ) → k < length b.waiting → ShareLeg b (item_in b.waiting k) (leg_in l.legs l.figures k) =
    λ k h. (let t = e.filled k (omega arith) in search rules)
    in
    record {
      trades = e.as_many ∙ many;
      share_legs = record {
        long = e.started.legs_long;
        from_as = λ k h. (leg k h).from;
        to_as = λ k h. (leg k h).to;
        number_as = λ k h. (leg k h).number;
      };
      share_start = record {
        long = e.started.figures_long;
        has_as = λ k h. (leg k h).has;
        owes_as = λ k h. e.started.none_owed k (omega arith);
      };
    }
