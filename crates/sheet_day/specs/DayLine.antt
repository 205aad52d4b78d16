-- The heading, and the day's line (RULES 18.3).
use Rattle.std.specs.Prelude.{if◌then◌else◌, ℕ, Bool, List, [], ◌∷◌, ◌++◌}
use Rattle.rulebook.specs.declared.Day.{Day}
use Rattle.text.specs.Text.{text}
use Rattle.text_or_page.specs.Written.{written, written_where, cents, clock}

-- the sheet's heading
unfoldable pub heading : (page : Bool) → (day : ℕ) → List ℕ
heading page day = written page "HANDOVER SHEET DAY #\n" "<h1>Handover sheet, day #</h1>\n" (day ∷ [])

-- open or closed
abbrev pub open_or_closed : (page opened : Bool) → List ℕ
open_or_closed page opened = if opened then written page "OPEN" "<td>open" [] else written page "CLOSED" "<td>closed" []

-- that a cycle is sent which nobody has answered (RULES 4.16)
abbrev pub unanswered : (page sent : Bool) → List ℕ
unanswered page sent = written_where page sent " WITH A CYCLE SENT AND NOT ANSWERED" ", with a cycle sent and not answered"

-- behind the state
abbrev pub rest_of_line : (page : Bool) → (kind cycles minute rate : ℕ) → List ℕ
rest_of_line page kind cycles minute rate =
    written page
    " KIND # CYCLES # LAST MINUTE ##:## RATE #.##\n"
    "</td><td class=n>#</td><td class=n>#</td><td class=n>##:##</td><td class=n>#.##</td></tr>\n"
    (kind ∷ cycles ∷ clock minute (cents rate []))

-- number, state, whether a cycle is sent, kind, cycles run, the last minute as a clock, the rate
unfoldable pub day_line : (page : Bool) → Day → (rate : ℕ) → List ℕ
day_line page day rate =
    written page "DAY # " "<tr><td class=n>#</td>" (day.number ∷ [])
    ++ open_or_closed page day.opened
    ++ unanswered page day.sent
    ++ rest_of_line page day.kind day.cycles day.minute rate

-- what stands above it in a page
abbrev pub day_head : List ℕ
day_head =
    text "<table>\n<thead><tr><th class=n>Day</th><th>State</th><th class=n>Kind</th><th class=n>Cycles run</th><th class=n>Last minute</th>"
    ++ text "<th class=n>Rate, LBP for 1 USD</th></tr></thead>\n<tbody>\n"
