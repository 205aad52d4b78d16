-- The table of forms says whether there is such a form.
use Rattle.std.proofs.Common.{refl}
use Rattle.rulebook.specs.Record.{no_form}
use Rattle.field_rules.proofs.ruled.Goals as goal

pub returns-then-rule-eq0 : goal.returns-then-rule-eq0
unfolding no_form
returns-then-rule-eq0 c = rw (c.rule_of-rule.ensures.none c.if-rule-eq0.true)

pub returns : goal.returns
unfolding no_form
returns c = (rw ((c.rule_of-rule.ensures.some c.if-rule-eq0.false).0), refl)
