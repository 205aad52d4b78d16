-- Marks on a waiting list's items: a mask of 64 bits, the first item's the most significant.
use Rattle.std.specs.Prelude.{if◌then◌else◌, ℕ, ◌-◌, ◌*◌, ◌/◌, ◌%◌, ◌^◌, ◌<◌, Bool, true, false, not, List, ◌++◌, map, ◌≡◌, length, get_or, drop}
use Rattle.plain.specs.Lists.{◌is◌, total, keep, sum_below}
use Rattle.rulebook.specs.Cycle.{legs}
use Rattle.rulebook.specs.Rows.{Row, posting_rows, rows_bytes}
use Rattle.rulebook.specs.declared.Item.{Item}
use Rattle.rulebook.specs.declared.State.TheVariants.{Single}
use Rattle.words.specs.Places.{list_from}

-- items with a mark on some of them
abbrev pub Marked : Type 0
Marked = Bool × Item

-- the sum of a figure over the marked ones
unfoldable pub over : (Item → ℕ) → List Marked → ℕ
over figure marked = total (λ m. if m.0 then figure m.1 else 0) marked

-- the items with a mark, and those without, in list order
unfoldable pub with_mark : List Marked → List Item
with_mark marked = map (λ m. m.1) (keep (λ m. m.0) marked)

unfoldable pub without_mark : List Marked → List Item
without_mark marked = map (λ m. m.1) (keep (λ m. not m.0) marked)

-- the item at k; past the end of the list stands an item of zeros
abbrev pub no_item : Item
no_item =
    record {
      security = 0;
      currency = 0;
      debited = record { member = 0; typ = 0; shareholder = 0 };
      credited = record { member = 0; typ = 0; shareholder = 0 };
      quantity = record { 0 = 0 };
      amount = record { 0 = 0 };
      trade_day = 0;
      settlement_day = 0;
      state = Single false 0;
      sent = false;
    }

abbrev pub item_in : List Item → ℕ → Item
item_in waiting k = get_or waiting k no_item

-- the item at k has a mark
unfoldable pub is_on : (marks k : ℕ) → Bool
is_on marks k = (marks / 2 ^ (63 - k) % 2) is 1

-- the item at i is the first that has a mark
pub record First (marks i : ℕ) : Type 0 where
  pub inside : i < 64
  pub on : is_on marks i ≡ true
  pub none_before : (k : ℕ) → k < i → is_on marks k ≡ false

-- the waiting list with its marks
unfoldable pub marked_of : (marks : ℕ) → List Item → List Marked
marked_of marks waiting = list_from (λ k. (is_on marks k, item_in waiting k)) 0 (length waiting)

-- how many of the first n are marked
abbrev pub count_on : (ℕ → Bool) → ℕ → ℕ
count_on on n = sum_below n (λ k. if on k then 1 else 0)

-- the rows of the marked trades
abbrev pub rows_of : List Marked → List Row
rows_of marked = posting_rows (legs (with_mark marked))

-- an area that starts with them
abbrev pub with_rows : List Marked → List ℕ → List ℕ
with_rows marked area = rows_bytes (rows_of marked) ++ drop (16 * length (rows_of marked)) area
