-- `waiting_list::item_of` meets its contract. Assumes nothing.
use mathlib.Core.List.{List}
use Prim.Native.Nat.{ℕ, ◌/◌}
use lib.ListN.{get_or}
use Rattle.plain.specs.Lists.{◌is◌}
use borrow.Author.Rules.{rules}
use Rattle.waiting_list.proofs.item_of.Statement.{statement}
use Rattle.waiting_list.proofs.item_of.Tie as tie

-- four words are read for the state, then twelve in the row's order
abbrev start : tie.After-state_of-state → tie.Start
start c = c.before.before.before.before.before.before

abbrev after-six : tie.After-shared_slice_known-11-1 → tie.After-state_of-state
after-six c = c.before.before.before.before.before.before

returns : tie.Need-returns
returns c =
    let state = after-six c.before.before.before.before.before.before in
    let r : List ℕ = (start state).args.r.now in
    λ k. record {
      security = get_or r 0 0;
      currency = get_or r 1 0;
      debited = record { member = get_or r 2 0; typ = get_or r 3 0; shareholder = get_or r 4 0 };
      credited = record { member = get_or r 5 0; typ = get_or r 6 0; shareholder = get_or r 7 0 };
      quantity = record { 0 = get_or r 8 0 };
      amount = record { 0 = get_or r 9 0 };
      trade_day = get_or r 10 0;
      settlement_day = get_or r 11 0;
      state = state.state_of-state.ensures k;
      sent = get_or r 15 0 / 4 is 1;
    }

pub item_of_spec : {M : Type 1} → statement M
item_of_spec =
    tie.close
    (tie.spec (λ c. search rules) (λ c. search rules) (λ c. search rules) (λ c. search rules) (λ c κs. search rules) (λ c. search rules) (λ c. search rules)
    (λ c. search rules) (λ c. search rules) (λ c. search rules) (λ c. search rules) (λ c. search rules) (λ c. search rules) (λ c. search rules)
    (λ c. search rules) (λ c. search rules) (λ c. search rules) returns)
