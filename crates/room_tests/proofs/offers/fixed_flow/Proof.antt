-- `room_tests::offers::fixed_flow` meets its contract. Assumes nothing.
use mathlib.Core.Path.{sym, ◌∙◌}
use borrow.Author.Rules.{rules}
use Rattle.room_tests.proofs.offers.fixed_flow.Statement.{statement}
use Rattle.room_tests.proofs.offers.fixed_flow.Tie as tie

returns : tie.Need-returns-then-not-is_sent
returns c = λ d. let e = sym (c.before.is_sent.ensures d) ∙ c.if-not-is_sent.true in (rw e, rw e)

returns-2 : tie.Need-returns
returns-2 c = λ d.
    let item = c.before.item_at.ensures d in
    let here = c.before.before in
    let e = sym (here.before.is_sent.ensures d) ∙ here.if-not-is_sent.false in
    (c.flow_of.ensures.0 ∙ rw (e, item), c.flow_of.ensures.1 ∙ rw (e, item))

pub fixed_flow_spec : {M : Type 1} → statement M
fixed_flow_spec = tie.close (tie.spec (λ c κs. search rules) returns (λ c κs. search rules) (λ c κs. search rules) returns-2)
