-- What a form's handler does to a book and an area.
use Rattle.std.specs.Prelude.{ℕ, ◌*◌, List, ◌++◌, ◌≡◌, length, drop}
use Rattle.rulebook.specs.Forms.{Outcome}
use Rattle.rulebook.specs.Rows.{rows_bytes}
use Rattle.rulebook.specs.declared.Counts.{Counts}
use Rattle.book.specs.Meaning.{ledger_of}
use Rattle.book.specs.Stored.{Stored}

-- the words at exit mean the outcome's ledger, the answer has its counts, and its rows stand at the area's start, the bytes after them kept
pub record Handled (outcome : Outcome) (book : List ℕ) (before after : List ℕ) (counts : Counts) : Type 0 where
  pub stored : Stored book
  pub ledger : ledger_of book ≡ outcome.after
  pub counted : counts ≡ outcome.counts
  pub written : after ≡ rows_bytes outcome.rows ++ drop (16 * length outcome.rows) before
