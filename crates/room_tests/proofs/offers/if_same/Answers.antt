use Rattle.std.proofs.Common.{◌∙◌, sym}
use Rattle.rulebook.proofs.Accounts.{same-fields}
use Rattle.room_tests.proofs.offers.if_same.Goals as goal

pub returns-then-eq : goal.returns-then-eq
returns-then-eq c = rw (sym (c.eq.ensures ∙ same-fields c.args.one c.args.other) ∙ c.if-eq.true)

pub returns : goal.returns
returns c = rw (sym (c.eq.ensures ∙ same-fields c.args.one c.args.other) ∙ c.if-eq.false)
