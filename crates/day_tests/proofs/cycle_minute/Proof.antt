-- `day_tests::cycle_minute` meets its contract. Assumes nothing.
use mathlib.Core.Path.{◌∙◌}
use borrow.Author.Rules.{rules}
use borrow.Author.Tests.{ne_eqb}
use Rattle.day_tests.proofs.Windows.{minute-by_test}
use Rattle.day_tests.proofs.cycle_minute.Statement.{statement}
use Rattle.day_tests.proofs.cycle_minute.Tie as tie

returns : tie.Need-returns-then-cycles-eq0
returns c = rw (minute-by_test, c.if-cycles-eq0.true)

returns-2 : tie.Need-returns-then-cycles-eq1
returns-2 c = rw (minute-by_test, c.if-cycles-eq1.true)

returns-3 : tie.Need-returns-then-cycles-eq2
returns-3 c = c.by_kind.ensures ∙ rw (minute-by_test, c.before.if-cycles-eq2.true)

returns-4 : tie.Need-returns
returns-4 c = rw (minute-by_test, ne_eqb _ _ c.before.before.if-cycles-eq0.false, ne_eqb _ _ c.before.if-cycles-eq1.false, ne_eqb _ _ c.if-cycles-eq2.false)

pub cycle_minute_spec : {M : Type 1} → statement M
cycle_minute_spec = tie.close (tie.spec returns returns-2 (λ c κs. search rules) returns-3 returns-4)
