-- `words::passed`: what is found from the first place on is what is found from the next four on.
use Rattle.std.proofs.Common.{◌≡◌, ◌*◌, ◌-◌}
use Rattle.words.specs.Places.{first_from}
use Rattle.words.specs.Tables.{is_key}
use Rattle.words.proofs.passed.Given as goal

abbrev pub invariant-loop-four : goal.invariant-loop-four
invariant-loop-four l =
    first_from (is_key l.table l.key) 0 l.n ≡ first_from (is_key l.table l.key) (4 * l.four) (l.n - 4 * l.four)
