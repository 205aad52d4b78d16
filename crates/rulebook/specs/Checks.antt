-- Every check of a call, in checking order.
use Rattle.std.specs.Prelude.{ℕ, ◌≡◌, Bool, List, ◌∷◌, ◌++◌}
use Rattle.plain.specs.Lists.{first}
use Rattle.rulebook.specs.Ledger.{Ledger}
use Rattle.rulebook.specs.Record.{read_tests, order_of, fields_in}
use Rattle.rulebook.specs.Refusals.{refusals}
use Rattle.rulebook.specs.Call.{answer_number, short_area, call_of}

-- RULES 7. The area, the record's bytes and fields, then the order on the book
unfoldable pub checks : Ledger → List ℕ → List ℕ → List (ℕ × Bool)
checks book bytes area = (1, short_area area) ∷ read_tests bytes ++ refusals book (order_of (fields_in bytes))

-- A call answers with the number of the first check that applies, and with 0 where none does.
unfoldable pub CheckingOrder : Type 0
CheckingOrder = (book : Ledger) (bytes area : List ℕ) → answer_number (call_of book bytes area).answer ≡ first (checks book bytes area)
