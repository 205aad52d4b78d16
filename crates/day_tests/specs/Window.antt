-- Parts of a form's window.
use Rattle.std.specs.Prelude.{if◌then◌else◌, ℕ, length}
use Rattle.plain.specs.Lists.{◌is◌}
use Rattle.rulebook.specs.Windows.{by_kind, office_end, cycle_minutes, all_run}
use Rattle.rulebook.specs.declared.Day.{Day}

-- Forms 12, 13: until 960 / 900, but until 825 / 705 when the settlement day is today
abbrev pub payment_end : Day → ℕ → ℕ
payment_end day settlement_day = if settlement_day is day.number then by_kind day.kind 825 705 else office_end day.kind

-- Form 21: until 960 / 900, but until the day's end when all its cycles have run
abbrev pub answer_end : Day → ℕ
answer_end day = if all_run day then 1439 else office_end day.kind

-- how many cycles a day of that kind has
abbrev pub cycles_of : ℕ → ℕ
cycles_of kind = length (cycle_minutes kind)
