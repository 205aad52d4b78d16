-- The room for an exchange trade: refusal 18 does not apply. Assumes nothing.
use Prim.Native.Nat.{ℕ, ◌<◌}
use native.Mathlib.Omega.{arith}
use mathlib.Core.List.{List}
use mathlib.Core.Path.{◌≡◌, sym, ◌∙◌}
use borrow.Author.Tests.{ltb-false}
use lib.ListN.{length}
use Rattle.plain.proofs.Tests.{neither}
use Rattle.plain.specs.Lists.{◌below◌}
use Rattle.rulebook.specs.declared.Order.{Order}
use Rattle.rulebook.proofs.Space.{trade-space}
use Rattle.book.specs.Meaning.{ledger_of}
use Rattle.checking.specs.Given.{Given}
use Rattle.checking.proofs.Passed.{known}

pub trade-room : {book : List ℕ} {order : Order} → Given book order → order.form ≡ 14 → length (ledger_of book).waiting < 64
trade-room {book} {order} given e =
    let items : ℕ = length (ledger_of book).waiting in
    let space = sym (trade-space (ledger_of book) order (given.kept.premise.sizes) e) ∙ (known given).space in
    omega (arith, ltb-false 63 items (neither (63 below items) _ space).0)
