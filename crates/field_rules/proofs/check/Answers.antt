-- Each way out by the tests that led there.
use Rattle.field_rules.specs.Fields.{fields_refusal}
use Rattle.field_rules.proofs.check.Goals as goal

pub returns-in_default : goal.returns-in_default
unfolding fields_refusal
returns-in_default c = rw c.in_default.ensures

pub returns-then-are_right : goal.returns-then-are_right
unfolding fields_refusal
returns-then-are_right c = rw (c.in-Some.ensures.0, ← c.in-Some.ensures.1) (c.are_right.ensures c.if-are_right.true)

pub returns : goal.returns
unfolding fields_refusal
returns c = rw (c.in-Some.ensures.0, ← c.in-Some.ensures.1) c.check.ensures
