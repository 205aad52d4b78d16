-- Which of the waiting trades a cycle fixes (RULES 9.1, 9.5 to 9.7, 9.25, 9.26): the due ones are in; while something is short the last that draws on it
-- goes; then passes over those that went put back what fits.
use Rattle.std.specs.Prelude.{if◌then◌else◌, ℕ, zero, suc, Bool, true, false, not, ◌||◌, ◌&&◌, List, [], ◌∷◌, ◌++◌, map, length}
use Rattle.plain.specs.Lists.{◌is◌, ◌at_most◌, some, total, keep}
use Rattle.rulebook.specs.declared.Item.{Item}
use Rattle.rulebook.specs.declared.State.{State}
use Rattle.rulebook.specs.declared.State.TheVariants.{Single, Pair, Trade}
use Rattle.rulebook.specs.Ledger.{Ledger, Holdings}
use Rattle.rulebook.specs.Waiting.{is_trade}
use Rattle.rulebook.specs.Shortfall.{Shortfall, shortfall, debits_short, any_short}

-- how an item stands in a selection
pub data Standing : Type 0 where
  -- no cycle takes it
  not_due : Standing
  -- it is in
  taken : Standing
  -- it was dropped: what each of its trades lacked just before that
  left : (lacked : List Shortfall) → Standing

abbrev pub is_taken : Standing → Bool
is_taken not_due = false
is_taken taken = true
is_taken (left lacked) = false

abbrev pub is_left : Standing → Bool
is_left not_due = false
is_left taken = false
is_left (left lacked) = true

-- A place of the waiting list: its item, and the trades that go in and out with it. No form brings such trades yet: `others` is empty in `entries`.
pub record Entry : Type 0 where
  pub item : Item
  pub others : List Item
  pub standing : Standing

abbrev pub trades_of : Entry → List Item
trades_of e = e.item ∷ e.others

abbrev pub with_standing : Standing → Entry → Entry
with_standing s e = record { item = e.item; others = e.others; standing = s }

-- the trades that are in, in list order
unfoldable pub trades_in : List Entry → List Item
trades_in [] = []
trades_in (e ∷ rest) = let more = trades_in rest in if is_taken e.standing then trades_of e ++ more else more

-- how many entries are in, and how many are left
abbrev pub count_in : List Entry → ℕ
count_in es = total (λ e. if is_taken e.standing then 1 else 0) es

unfoldable pub count_left : List Entry → ℕ
count_left es = total (λ e. if is_left e.standing then 1 else 0) es

-- ---- the dropping

-- RULES 9.5: the entry is in, and one of its trades draws on what is short while the trades `now` are in
unfoldable pub drops : Holdings → (now : List Item) → Entry → Bool
drops h now e = is_taken e.standing && some (debits_short h now) (trades_of e)

-- it goes, and it is kept what its trades lacked
abbrev pub dropped : Holdings → (now : List Item) → Entry → Entry
dropped h now e = with_standing (left (map (shortfall h now) (trades_of e))) e

-- without the last of these, in list order
unfoldable pub drop_last : Holdings → (now : List Item) → List Entry → List Entry
drop_last h now [] = []
drop_last h now (e ∷ rest) =
    let later = e ∷ drop_last h now rest in
    if some (drops h now) rest then later
    else if drops h now e then dropped h now e ∷ rest
    else e ∷ rest

-- RULES 9.5, 9.6: each round drops one, while something is short
unfoldable pub rounds : ℕ → Holdings → List Entry → List Entry
rounds zero h es = es
rounds (suc more) h es =
    let next = rounds more h (drop_last h (trades_in es) es) in
    if any_short h (trades_in es) then next else es

-- so as many rounds as there are entries are enough
unfoldable pub dropping : Holdings → List Entry → List Entry
dropping h es = rounds (length es) h es

-- ---- passes, which put back what fits

-- RULES 9.25: with its trades beside the trades `now` nothing is short
unfoldable pub fits : Holdings → (now : List Item) → Entry → Bool
fits h now e = not (any_short h (now ++ trades_of e))

-- one pass: each that is left, in list order, is put back if it fits beside those that are in by then, with what the pass has put back before it
unfoldable pub pass : Holdings → (now : List Item) → List Entry → List Entry
pass h now [] = []
pass h now (e ∷ rest) =
    let added = with_standing taken e ∷ pass h (now ++ trades_of e) rest in
    let stays = e ∷ pass h now rest in
    if is_left e.standing && fits h now e then added else stays

abbrev pub one_pass : Holdings → List Entry → List Entry
one_pass h es = pass h (trades_in es) es

-- RULES 9.26: pass after pass, as long as one puts something back
unfoldable pub passes : ℕ → Holdings → List Entry → List Entry
passes zero h es = es
passes (suc more) h es =
    let next = passes more h (one_pass h es) in
    if count_left (one_pass h es) is count_left es then es else next

-- the dropping, then at most so many passes
unfoldable pub selection_in : (most : ℕ) → Holdings → List Entry → List Entry
selection_in most h es = passes most h (dropping h es)

-- with passes until one puts nothing back: each before it puts one back, so as many as there are entries are enough
unfoldable pub full_selection : Holdings → List Entry → List Entry
full_selection h es = selection_in (length es) h es

-- ---- what comes of it

-- a trade that is left, and what it lacked
pub record LeftTrade : Type 0 where
  pub trade : Item
  pub lacked : Shortfall

abbrev pub with_lacks : List Item → List Shortfall → List LeftTrade
with_lacks [] lacks = []
with_lacks (t ∷ trades) [] = []
with_lacks (t ∷ trades) (lack ∷ lacks) = record { trade = t; lacked = lack } ∷ with_lacks trades lacks

abbrev pub lacks_of : Standing → List Shortfall
lacks_of not_due = []
lacks_of taken = []
lacks_of (left lacked) = lacked

-- the trades that are left, in list order
unfoldable pub trades_left : List Entry → List LeftTrade
trades_left [] = []
trades_left (e ∷ rest) = with_lacks (trades_of e) (lacks_of e.standing) ++ trades_left rest

-- an exchange trade goes by its reference
unfoldable pub same_trade : Item → Item → Bool
same_trade i j = same i.state j.state
  where
    same : State → State → Bool
    same (Single delivers reference) state = false
    same (Pair d r dm rm) state = false
    same (Trade reference) (Single delivers other) = false
    same (Trade reference) (Pair d r dm rm) = false
    same (Trade reference) (Trade other) = reference is other

-- an item is sent where it is in, or goes with one that is
unfoldable pub is_sent : List Entry → Entry → Bool
is_sent es e = is_taken e.standing || some (λ o. is_taken o.standing && some (same_trade e.item) o.others) es

-- ---- the waiting list as entries

-- RULES 9.1: what a cycle takes
unfoldable pub due : (day : ℕ) → Item → Bool
due day item = is_trade item.state && item.settlement_day at_most day

-- an item that is in if it passes a test, with what goes with it
unfoldable pub entry_by : (is_in : Item → Bool) → (others : Item → List Item) → Item → Entry
entry_by is_in others item = record { item = item; others = others item; standing = if is_in item then taken else not_due }

unfoldable pub entries : Ledger → List Entry
entries book = map (entry_by (due book.day.number) (λ item. [])) book.waiting

-- the entries of a list in which some items go with another, by a test of the two
unfoldable pub with_originals : (is_in : Item → Bool) (is_original : (operation item : Item) → Bool) → List Item → List Entry
with_originals is_in is_original waiting = map (entry_by is_in (λ item. keep (is_original item) waiting)) waiting

-- RULES 9.7: what a cycle makes of a book when it is sent
unfoldable pub selection : Ledger → List Entry
selection book = full_selection book.holdings (entries book)
