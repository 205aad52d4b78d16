-- What is proved of a selection (RULES 12.32 to 12.34).
use Rattle.std.specs.Prelude.{ℕ, ◌+◌, ◌≤◌, ◌<◌, Bool, true, false, not, ◌||◌, List, map, ◌++◌, ◌≡◌, length}
use Rattle.plain.specs.Lists.{some, total, Each}
use Rattle.rulebook.specs.declared.Item.{Item}
use Rattle.rulebook.specs.Ledger.{Holdings, Ledger}
use Rattle.rulebook.specs.Movements.{Place}
use Rattle.rulebook.specs.Shortfall.{Shortfall, missing, NothingShort, lacks_some, shortfall, debits_short}
use Rattle.rulebook.specs.Selection.{Standing, Entry, not_due, taken, left, trades_of, is_taken, is_left, trades_in}
use Rattle.rulebook.specs.Selection.{count_in, count_left, trades_left, fits, rounds, dropping, one_pass, passes, entries, selection}

-- ---- of a selection, with passes or without

-- a claim on what the trades of each entry that is left lacked
abbrev pub IfLeft : (List Item → List Shortfall → Type 0) → List Item → Standing → Type 0
IfLeft P trades not_due = Unit {0}
IfLeft P trades taken = Unit {0}
IfLeft P trades (left lacked) = P trades lacked

abbrev pub WhereLeft : (List Item → List Shortfall → Type 0) → List Entry → Type 0
WhereLeft P es = Each (λ e. IfLeft P (trades_of e) e.standing) es

-- it is what they lack with some trades `now` that have them among them: one figure a trade, and some figure above 0. Which trades, `dropped` says
pub record Moment (h : Holdings) (trades : List Item) (lacked : List Shortfall) : Type 0 where
  pub now : List Item
  pub among : (figure : Item → ℕ) → total figure trades ≤ total figure now
  pub exact : lacked ≡ map (shortfall h now) trades
  pub above : some lacks_some lacked ≡ true

-- what a selection does not change: the item, what goes with it, and whether it is due
pub record Spot : Type 0 where
  pub item : Item
  pub others : List Item
  pub is_due : Bool

abbrev pub spot : Entry → Spot
spot e = record { item = e.item; others = e.others; is_due = is_taken e.standing || is_left e.standing }

-- before a selection nothing is left
abbrev pub NoneLeft : List Entry → Type 0
NoneLeft es = Each (λ e. is_left e.standing ≡ false) es

pub record Selected (h : Holdings) (before after : List Entry) : Type 0 where
  -- nothing is short with the trades that are in
  pub covered : NothingShort h (trades_in after)
  -- what is kept of each that is left is what it lacks with some trades, and not nothing
  pub lacked : WhereLeft (Moment h) after
  -- place by place, what is due is in or left, and nothing else is
  pub same : map spot after ≡ map spot before
  -- so of every figure, those in and those left have together what the due ones have
  pub parts : (figure : Item → ℕ) → total figure (trades_in after) + total (λ l. figure l.trade) (trades_left after) ≡ total figure (trades_in before)

-- more rounds than there are entries in, and more passes than there are left, change nothing
pub record EnoughTurns (h : Holdings) (es : List Entry) : Type 0 where
  pub rounds_enough : (n k : ℕ) → count_in es ≤ n → count_in es ≤ k → rounds n h es ≡ rounds k h es
  pub passes_enough : (n k : ℕ) → count_left es ≤ n → count_left es ≤ k → passes n h es ≡ passes k h es

-- ---- of one with passes until none puts anything back

-- some account, or some member's cash, misses something
abbrev pub SomethingShort : Holdings → List Item → Type 0
SomethingShort h trades = (place : Place) × (0 < missing h trades place)

-- with one that is left beside those that are in, some place misses something
abbrev pub Unfit : Holdings → (now : List Item) → Entry → Type 0
Unfit h now e = is_left e.standing ≡ true → SomethingShort h (now ++ trades_of e)

pub record NothingFits (h : Holdings) (after : List Entry) : Type 0 where
  pub unfit : Each (Unfit h (trades_in after)) after
  -- a further pass would put nothing back
  pub ended : one_pass h after ≡ after

-- ---- the passes of a cycle come to an end (RULES 12.34)

pub record PassesEnd (book : Ledger) : Type 0 where
  -- of the waiting items, at most all are dropped
  pub few : count_left (dropping book.holdings (entries book)) ≤ length book.waiting
  -- as many passes as were dropped are enough, and no number above it changes anything
  pub enough : (n : ℕ) → count_left (dropping book.holdings (entries book)) ≤ n → passes n book.holdings (dropping book.holdings (entries book)) ≡ selection book
  -- one more would put nothing back
  pub ended : one_pass book.holdings (selection book) ≡ selection book

-- where nothing is short, only the places that an added one debits can become so
abbrev pub OwnTest : Holdings → (now : List Item) → Entry → Type 0
OwnTest h now e = NothingShort h now → fits h now e ≡ not (some (debits_short h (now ++ trades_of e)) (trades_of e))
