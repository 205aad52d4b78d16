-- Which items leave at the close of a day (RULES 4.12).
use Rattle.std.specs.Prelude.{if◌then◌else◌, ℕ, ◌+◌, Bool, [], ◌∷◌}
use Rattle.plain.specs.Lists.{◌is◌, ◌is_not◌, ◌at_most◌, ◌one_of◌}
use Rattle.rulebook.specs.Rows.{Row, notice, notice_of}
use Rattle.rulebook.specs.declared.Item.{Item}
use Rattle.rulebook.specs.declared.State.{State}
use Rattle.rulebook.specs.declared.State.TheVariants.{Single, Pair, Trade}

-- RULES 4.12: the kind of the notice with which an item leaves, and 0 where it stays
unfoldable pub close_kind : ℕ → Item → ℕ
close_kind day item = kind item.state
  where
    kind : State → ℕ
    kind (Single delivers reference) = if item.settlement_day is day then 1 else 0
    kind (Pair d r dm rm) = if day is (item.settlement_day + 10) then 2 else 0
    kind (Trade reference) = if item.settlement_day at_most day then 3 else 0

unfoldable pub leaves : ℕ → Item → Bool
leaves day item = close_kind day item is_not 0

unfoldable pub deleted_at_close : ℕ → Item → Bool
deleted_at_close day item = close_kind day item one_of (1 ∷ 2 ∷ [])

unfoldable pub suspended_at_close : ℕ → Item → Bool
suspended_at_close day item = close_kind day item is 3

unfoldable pub close_notice : ℕ → Item → Row
close_notice day item = notice (notice_of (close_kind day item) item)
