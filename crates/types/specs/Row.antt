-- How the code has the table of account types: a row is a word.
use Rattle.std.specs.Prelude.{if◌then◌else◌, ℕ, ◌+◌, ◌*◌, ◌^◌, ◌/◌, ◌%◌, Bool, ◌&&◌}
use Rattle.plain.specs.Lists.{◌is◌, ◌is_not◌, total}
use Rattle.rulebook.specs.TypeTable.{type_row}
use Rattle.rulebook.specs.AccountTypes.{is_paper}

-- the state in the three lowest bits, a bit for physical, a bit for a type of paper; then a byte for each way to become another type
unfoldable pub word_of : ℕ → ℕ
word_of typ =
    (type_row typ).state + (if (type_row typ).physical then 2 ^ 3 else 0) + (if is_paper typ then 2 ^ 4 else 0)
    + total (λ pair. pair.1 * 2 ^ (8 * pair.0)) (type_row typ).pairs

-- the byte at a place is that type's number
unfoldable pub named_in : (row place typ : ℕ) → Bool
named_in row place typ = typ is_not 0 && (row / 2 ^ place) % 2 ^ 8 is typ
