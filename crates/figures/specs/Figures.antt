-- A call's counts and what a book says, as lists of words.
use Rattle.std.specs.Prelude.{if◌then◌else◌, ℕ, List, [], ◌∷◌, length}
use Rattle.rulebook.specs.Ledger.{Ledger, Holdings, held}
use Rattle.rulebook.specs.declared.Counts.{Counts}
use Rattle.rulebook.specs.declared.Day.{Day}
use Rattle.rulebook.specs.declared.Item.{Item}
use Rattle.rulebook.specs.declared.Request.{Request}
use Rattle.rulebook.specs.declared.Security.{Security}
use Rattle.rulebook.specs.declared.State.{State}
use Rattle.rulebook.specs.declared.State.TheVariants.{Single, Pair, Trade}
use Rattle.words.specs.Places.{bit}
use Rattle.figures.specs.declared.StateFigures.{StateFigures}

abbrev pub count_figures : Counts → List ℕ
count_figures c = c.rows ∷ c.settled ∷ c.cancelled ∷ c.deleted ∷ c.suspended ∷ c.left ∷ []

-- the last: whether a cycle is sent
abbrev pub day_figures : Day → List ℕ
day_figures d = d.number ∷ bit d.opened ∷ d.kind ∷ d.cycles ∷ d.minute ∷ bit d.sent ∷ []

-- how many securities, accounts, waiting items, open requests
abbrev pub size_figures : Ledger → List ℕ
size_figures b = length b.holdings.securities ∷ b.holdings.accounts ∷ length b.waiting ∷ b.requests.number ∷ []

-- a security, with a count as what is held of it
abbrev pub security_with : Security → ℕ → List ℕ
security_with s held = s.code ∷ s.issued.0 ∷ held ∷ s.outside.0 ∷ []

-- with what its accounts hold
abbrev pub security_figures : Holdings → Security → List ℕ
security_figures h s = security_with s (held s.code h)

abbrev pub request_figures : Request → List ℕ
request_figures r = r.security ∷ r.typ ∷ r.shareholder ∷ r.quantity.0 ∷ r.day ∷ []

-- 1 deliver, 2 receive, 3 pair, 4 exchange trade; its reference, which is the deliver's in a pair, and the receive's there; which halves are marked
abbrev pub state_figures : State → StateFigures
state_figures (Single delivers reference) =
    record { state = if delivers then 1 else 2; reference = reference; second = 0; deliver_marked = 0; receive_marked = 0 }
state_figures (Pair deliver receive dm rm) = record { state = 3; reference = deliver; second = receive; deliver_marked = bit dm; receive_marked = bit rm }
state_figures (Trade reference) = record { state = 4; reference = reference; second = 0; deliver_marked = 0; receive_marked = 0 }

-- an item with its state's figures, and whether a sent cycle has fixed it
abbrev pub figures_with : Item → StateFigures → (sent : ℕ) → List ℕ
figures_with i s sent =
    i.security ∷ i.currency
    ∷ i.debited.member ∷ i.debited.typ ∷ i.debited.shareholder
    ∷ i.credited.member ∷ i.credited.typ ∷ i.credited.shareholder
    ∷ i.quantity.0 ∷ i.amount.0 ∷ i.trade_day ∷ i.settlement_day
    ∷ s.state ∷ s.reference ∷ s.second ∷ s.deliver_marked ∷ s.receive_marked ∷ sent ∷ []

abbrev pub item_figures : Item → List ℕ
item_figures i = figures_with i (state_figures i.state) (bit i.sent)
