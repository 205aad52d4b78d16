-- `room_tests::offers::flow_of` meets its contract. Assumes nothing.
use mathlib.Core.Path.{◌∙◌}
use borrow.Author.Rules.{rules}
use Rattle.rulebook.specs.Shortfall.{takes, brings}
use Rattle.room_tests.proofs.offers.flow_of.Statement.{statement}
use Rattle.room_tests.proofs.offers.flow_of.Tie as tie

returns : tie.Need-returns
unfolding takes brings
returns c =
    let bought = c.before in
    let sold = bought.before in (
      sold.if_same-taken.ensures ∙ rw sold.before.seller_of.ensures,
      c.if_same-brought.ensures ∙ rw bought.buyer_of.ensures,
    )

pub flow_of_spec : {M : Type 1} → statement M
flow_of_spec = tie.close (tie.spec (λ c κs. search rules) (λ c κs. search rules) (λ c κs. search rules) (λ c κs. search rules) returns)
