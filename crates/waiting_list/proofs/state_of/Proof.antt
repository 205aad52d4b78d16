-- `waiting_list::state_of` meets its contract: each answer rewrites with the tests that led to it. Assumes nothing.
use borrow.Author.Tests.{eq-eqb, ne_eqb}
use Rattle.waiting_list.specs.Waiting.{state_of}
use Rattle.waiting_list.proofs.state_of.Statement.{statement}
use Rattle.waiting_list.proofs.state_of.Tie as tie

returns : tie.Need-returns-then-tag-eq0
unfolding state_of
returns c = simp (eq-eqb _ _ c.if-tag-eq0.true)

returns-2 : tie.Need-returns-then-tag-eq1
unfolding state_of
returns-2 c = simp (ne_eqb _ _ c.before.if-tag-eq0.false, eq-eqb _ _ c.if-tag-eq1.true)

returns-3 : tie.Need-returns
unfolding state_of
returns-3 c = simp (ne_eqb _ _ c.before.if-tag-eq0.false, ne_eqb _ _ c.if-tag-eq1.false)

pub state_of_spec : {M : Type 1} → statement M
state_of_spec =
    tie.close
    (tie.spec returns returns-2 returns-3)
