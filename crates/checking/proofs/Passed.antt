-- What is known of an order that no refusal applies to. Assumes nothing.
use Prim.Native.Nat.{ℕ}
use mathlib.Core.List.{List}
use Rattle.rulebook.specs.declared.Order.{Order}
use Rattle.rulebook.proofs.Orders.{Accepted, accepted}
use Rattle.book.specs.Meaning.{ledger_of}
use Rattle.checking.specs.Given.{Given}

pub known : {book : List ℕ} {order : Order} → Given book order → Accepted (ledger_of book) order
known {book} {order} given = accepted (ledger_of book) order given.read.octets given.read.read given.passes
