-- `day_tests::awaits_answer` meets its contract: the forms are those of the list. Assumes nothing.
use mathlib.Core.Bool.{Bool, true, false, ◌&&◌, ◌||◌}
use mathlib.Core.Path.{◌≡◌, refl}
use Rattle.plain.specs.Lists.{◌is◌}
use Rattle.rulebook.specs.Refusals.{awaits_answer}
use Rattle.day_tests.proofs.awaits_answer.Statement.{statement}
use Rattle.day_tests.proofs.awaits_answer.Tie as tie

one-of-four : (a b c d sent : Bool) → ((a || b || c || d) && sent) ≡ ((a || (b || (c || (d || false)))) && sent)
one-of-four true b c d sent = refl
one-of-four false true c d sent = refl
one-of-four false false true d sent = refl
one-of-four false false false true sent = refl
one-of-four false false false false sent = refl

returns : tie.Need-returns
unfolding awaits_answer
returns c =
    let a = c.before.args in
    one-of-four (a.order.form is 10) (a.order.form is 11) (a.order.form is 16) (a.order.form is 17) a.day.sent

pub awaits_answer_spec : {M : Type 1} → statement M
awaits_answer_spec = tie.close (tie.spec returns)
