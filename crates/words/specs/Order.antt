-- Numbers in ascending order: the next one that passes a test, and the next key of a table.
use Rattle.std.specs.Prelude.{if◌then◌else◌, ℕ, ◌≤◌, ◌<◌, Bool, true, false, List, ◌≡◌}
use Rattle.plain.specs.Lists.{◌below◌}
use Rattle.words.specs.Tables.{rows, key_at}

-- the first number from one on that passes a test; the limit where none below it does
pub record Next (test : ℕ → Bool) (from limit next : ℕ) : Type 0 where
  pub least : from ≤ next
  pub most : next ≤ limit
  pub passes : next < limit → test next ≡ true
  pub others : (n : ℕ) → from ≤ n → n < next → test n ≡ false

-- the lesser of two keys; the second does not count below a number
abbrev pub lesser_of : (from least key : ℕ) → ℕ
lesser_of from least key = if key below from then least else if least below key then least else key

-- one of the first n rows has the key
pub record RowOf (table : List ℕ) (n key : ℕ) : Type 0 where
  pub place : ℕ
  pub inside : place < n
  pub here : key_at table place ≡ key

-- the least key of the first n rows from a number on; the limit where there is none below it
pub record LeastOf (table : List ℕ) (n from limit least : ℕ) : Type 0 where
  pub from_least : from ≤ least
  pub most : least ≤ limit
  pub row : least < limit → RowOf table n least
  pub others : (i : ℕ) → i < n → from ≤ key_at table i → least ≤ key_at table i

-- the least key of a table
abbrev pub NextKey : (table : List ℕ) (from limit next : ℕ) → Type 0
NextKey table from limit next = LeastOf table (rows table) from limit next
