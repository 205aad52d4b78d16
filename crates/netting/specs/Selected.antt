-- Which trades a cycle takes, and which of them it fixes: its rounds, its passes, all of it.
use Rattle.std.specs.Prelude.{ℕ, ◌≤◌, ◌<◌, true, false, List, [], map, ◌≡◌, length}
use Rattle.plain.specs.Lists.{Each}
use Rattle.rulebook.specs.Ledger.{Ledger}
use Rattle.rulebook.specs.Shortfall.{NothingShort}
use Rattle.rulebook.specs.Selection.{Entry, one_pass, passes, entries, selection}
use Rattle.marks.specs.Marks.{with_mark, is_on, marked_of, count_on}
use Rattle.netting.specs.Rounds.{mark_of, due_mark, mark_rounds}

-- no place behind the list has a mark
abbrev pub NoneBehind : Ledger → (due : ℕ) → Type 0
NoneBehind b due = (k : ℕ) → length b.waiting ≤ k → k < 64 → is_on due k ≡ false

-- the marks are those of the trades whose day has come, and no others
pub record Taken (b : Ledger) (due : ℕ) : Type 0 where
  pub marked : marked_of due b.waiting ≡ map mark_of (entries b)
  pub behind : NoneBehind b due

-- no mark is new
abbrev pub Within : (all some : ℕ) → Type 0
Within all some = (k : ℕ) → k < 64 → is_on some k ≡ true → is_on all k ≡ true

-- what the rounds leave of any marks
pub record Netted (b : Ledger) (first left : ℕ) : Type 0 where
  pub marked : marked_of left b.waiting ≡ mark_rounds (length b.waiting) b.holdings (marked_of first b.waiting)
  pub within : Within first left

-- what the passes start from, and keep: marks of trades that are due and of no others, with which nothing is short
pub record Started (b : Ledger) (due marks : ℕ) : Type 0 where
  pub behind : NoneBehind b due
  pub within : Within due marks
  pub covered : NothingShort b.holdings (with_mark (marked_of marks b.waiting))

-- entries, each by itself, as marks have them: those that are in or left, and those that are in
pub record Stands (b : Ledger) (due marks : ℕ) (es : List Entry) : Type 0 where
  pub all : marked_of due b.waiting ≡ map due_mark es
  pub marked : marked_of marks b.waiting ≡ map mark_of es
  pub alone : Each (λ e. e.others ≡ []) es

-- what a pass makes of marks: it takes none away
pub record Passed (b : Ledger) (due before after : ℕ) : Type 0 where
  pub started : Started b due after
  pub kept : Within after before
  pub passed : (es : List Entry) → Stands b due before es → marked_of after b.waiting ≡ map mark_of (one_pass b.holdings es)

-- and what all passes do
abbrev pub AllPassed : Ledger → (due before after : ℕ) → Type 0
AllPassed b due before after =
    (es : List Entry) → Stands b due before es → marked_of after b.waiting ≡ map mark_of (passes (length es) b.holdings es)

-- the trades that are due, and those of them that are fixed
pub record Selected (b : Ledger) (due fixed : ℕ) : Type 0 where
  pub due_marked : Taken b due
  pub fixed_marked : marked_of fixed b.waiting ≡ map mark_of (selection b)
  pub fewer : count_on (is_on fixed) (length b.waiting) ≤ count_on (is_on due) (length b.waiting)
