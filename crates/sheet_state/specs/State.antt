-- The state, the references and the marks of a waiting item's line (RULES 18.4).
use Rattle.std.specs.Prelude.{if◌then◌else◌, ℕ, Bool, List, [], ◌∷◌, ◌++◌}
use Rattle.rulebook.specs.declared.State.{State}
use Rattle.rulebook.specs.declared.State.TheVariants.{Single, Pair, Trade}
use Rattle.text_or_page.specs.Written.{written, written_where}

-- the state and the references; a pair's first is its deliver's
unfoldable pub state_of : (page : Bool) → State → List ℕ
state_of page (Single delivers reference) =
    if delivers then written page "DELIVER #" "<tr><td>deliver</td><td>#</td>" (reference ∷ [])
    else written page "RECEIVE #" "<tr><td>receive</td><td>#</td>" (reference ∷ [])
state_of page (Pair deliver receive deliver_marked receive_marked) =
    written page "PAIR # AND #" "<tr><td>pair</td><td># and #</td>" (deliver ∷ receive ∷ [])
state_of page (Trade reference) =
    written page "EXCHANGE TRADE #" "<tr><td>exchange trade</td><td>#</td>" (reference ∷ [])

-- that a sent cycle has fixed the item
unfoldable pub sent_of : (page sent : Bool) → List ℕ
sent_of page sent = written_where page sent " IN THE SENT CYCLE" "in the sent cycle<br>"

-- the halves of a pair that are marked for cancellation
abbrev pub halves_of : (page deliver_marked receive_marked : Bool) → List ℕ
halves_of page deliver_marked receive_marked =
    written_where page deliver_marked " DELIVER MARKED" "deliver" ++ written_where page receive_marked " RECEIVE MARKED" "receive"

unfoldable pub marks_of : (page : Bool) → State → List ℕ
marks_of page (Single delivers reference) = []
marks_of page (Pair deliver receive deliver_marked receive_marked) = halves_of page deliver_marked receive_marked
marks_of page (Trade reference) = []
