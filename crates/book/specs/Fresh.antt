-- The fresh book.
use Rattle.std.specs.Prelude.{ℕ, Bool, true, false, List, ◌≡◌, length}
use Rattle.plain.specs.Lists.{◌is◌}
use Rattle.rulebook.specs.Ledger.{fresh}
use Rattle.book.specs.Meaning.{book_length, ledger_of}
use Rattle.book.specs.Stored.{Kept}

-- a buffer is made the fresh book where it has a book's length, and else left as it is; the answer says which
pub record Freshened (before : List ℕ) (made : Bool) (after : List ℕ) : Type 0 where
  pub answers : made ≡ (length before is book_length)
  -- the words mean the rulebook's fresh ledger, and what every call requires holds of them
  pub ledger : made ≡ true → ledger_of after ≡ fresh
  pub kept : made ≡ true → Kept after
  pub untouched : made ≡ false → after ≡ before
