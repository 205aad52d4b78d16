-- What a form's handler is given.
use Rattle.std.specs.Prelude.{ℕ, ◌≤◌, List, ◌≡◌, length, Ok}
use Rattle.plain.specs.Lists.{first}
use Rattle.rulebook.specs.Record.{read_of}
use Rattle.rulebook.specs.Refusals.{refusals}
use Rattle.rulebook.specs.declared.Order.{Order}
use Rattle.book.specs.Meaning.{ledger_of}
use Rattle.book.specs.Stored.{Kept}

-- an order that was read
pub record WasRead (order : Order) : Type 0 where
  pub octets : List ℕ
  pub read : read_of octets ≡ Ok order

-- a book, and an order that was read and that no refusal applies to: for a form that writes no row
pub record Given (book : List ℕ) (order : Order) : Type 0 where
  pub kept : Kept book
  pub read : WasRead order
  pub passes : first (refusals (ledger_of book) order) ≡ 0

-- the same with an area
pub record Accepted (book : List ℕ) (order : Order) (area : List ℕ) : Type 0 where
  pub given : Given book order
  pub room : 4096 ≤ length area
