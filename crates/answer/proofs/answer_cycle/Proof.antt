-- `answer::answer_cycle` meets its contract. Assumes nothing.
use borrow.Author.Rules.{rules}
use borrow.Author.Tests.{eq-eqb, ne_eqb}
use Rattle.rulebook.specs.Forms.{answer_cycle}
use Rattle.answer.proofs.answer_cycle.Statement.{statement}
use Rattle.answer.proofs.answer_cycle.Tie as tie

returns : tie.Need-returns-then-order-eq1
unfolding answer_cycle
returns c =
    let done = c.before.before.before.before in
    let test = done.before.before.before in
    simp (eq-eqb _ _ test.if-order-eq1.true) done.confirm_cycle.ensures

returns-2 : tie.Need-returns
unfolding answer_cycle
returns-2 c =
    let done = c.before.before in
    let test = done.before.before in
    simp (ne_eqb _ _ test.if-order-eq1.false) (done.decline_cycle.ensures _)

pub answer_cycle_spec : {M : Type 1} → statement M
answer_cycle_spec =
    tie.close
    (tie.spec (λ c κs. search rules) (λ c. search rules) (λ c. search rules) returns (λ c κs. search rules) (λ c. search rules) returns-2)
