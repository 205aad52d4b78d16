-- The close of a day before the day itself is closed: what leaves, what stays, and what is counted.
use Rattle.std.specs.Prelude.{if◌then◌else◌, ℕ, ◌+◌, ◌<◌, ◌^◌, not, List, map, length}
use Rattle.plain.specs.Lists.{◌is◌, keep}
use Rattle.rulebook.specs.Ledger.{Ledger, put_waiting}
use Rattle.rulebook.specs.Waiting.{sides_of, sides, unmarked}
use Rattle.rulebook.specs.Close.{leaves, deleted_at_close, suspended_at_close, close_notice}
use Rattle.rulebook.specs.Rows.{Row}
use Rattle.rulebook.specs.Forms.{Outcome, counts}
use Rattle.rulebook.specs.declared.Counts.{Counts}
use Rattle.rulebook.specs.declared.Item.{Item}
use Rattle.rulebook.specs.declared.State.{State}

-- those that stay, unmarked, and the notices of those that leave
abbrev pub kept : ℕ → List Item → List Item
kept day items = map unmarked (keep (λ item. not (leaves day item)) items)

abbrev pub gone : ℕ → List Item → List Item
gone day items = keep (leaves day) items

abbrev pub notices : ℕ → List Item → List Row
notices day items = map (close_notice day) (gone day items)

-- notices, sides deleted and sides suspended
abbrev pub close_counts : ℕ → List Item → Counts
close_counts day items =
    counts (length (notices day items)) 0 0 (sides (keep (deleted_at_close day) (gone day items))) (sides (keep (suspended_at_close day) (gone day items))) 0

-- form 17, the day still open
unfoldable pub items_closed : ℕ → Ledger → Outcome
items_closed day book = record { after = put_waiting (kept day book.waiting) book; rows = notices day book.waiting; counts = close_counts day book.waiting }

-- one item more that leaves
pub record CanCount (c : Counts) : Type 0 where
  pub rows : c.rows < 2 ^ 32
  pub deleted : c.deleted < 2 ^ 32
  pub suspended : c.suspended < 2 ^ 32

unfoldable pub counted_one : Counts → ℕ → State → Counts
counted_one c kind state = record {
  rows = c.rows + 1;
  settled = c.settled;
  cancelled = c.cancelled;
  deleted = c.deleted + (if kind is 3 then 0 else sides_of state);
  suspended = c.suspended + (if kind is 3 then sides_of state else 0);
  left = c.left;
}
