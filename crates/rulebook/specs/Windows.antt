-- Windows: minutes of the day, both ends inside (RULES 4.7).
use Rattle.std.specs.Prelude.{if◌then◌else◌, ℕ, Bool, List, [], ◌∷◌, length, get_or}
use Rattle.plain.specs.Lists.{◌is◌, ◌at_most◌}
use Rattle.rulebook.specs.declared.Day.{Day}
use Rattle.rulebook.specs.declared.Order.{Order}

-- one of two figures, by the day's kind (RULES 4.2)
unfoldable pub by_kind : {A : Type 0} → ℕ → A → A → A
by_kind kind one two = if kind is 1 then one else two

-- RULES 4.9: the earliest minutes of a day's cycles
unfoldable pub cycle_minutes : ℕ → List ℕ
cycle_minutes kind = by_kind kind (585 ∷ 705 ∷ 825 ∷ []) (585 ∷ 705 ∷ [])

-- all cycles of the day have run
unfoldable pub all_run : Day → Bool
all_run day = length (cycle_minutes day.kind) at_most day.cycles

-- when the office ends
unfoldable pub office_end : ℕ → ℕ
office_end kind = by_kind kind 960 900

-- The first and the last minute at which a form may come, as functions of the day and the order; each form's row says which is its own.
abbrev pub Window : Type 0
Window = Day → Order → ℕ × ℕ

-- a day is opened
abbrev pub opening_hours : Window
opening_hours day order = (0, 480)

-- deposits, withdrawals and transfers of shares
abbrev pub counter_hours : Window
counter_hours day order = (510, by_kind day.kind 870 750)

-- all day
abbrev pub office_hours : Window
office_hours day order = (480, office_end day.kind)

-- instructions: all day, but a shorter time when the settlement day is today
abbrev pub payment_hours : Window
payment_hours day order = if order.settlement_day is day.number then (480, by_kind day.kind 825 705) else office_hours day order

-- from the next cycle's minute on
abbrev pub cycle_hours : Window
cycle_hours day order = (get_or (cycle_minutes day.kind) day.cycles 0, office_end day.kind)

-- RULES 4.17: an answer to a sent cycle: all day, and until the day's end when no cycle is still to run
abbrev pub answer_hours : Window
answer_hours day order = (480, if all_run day then 1439 else office_end day.kind)

-- after the office
abbrev pub closing_hours : Window
closing_hours day order = (office_end day.kind, 1439)
