-- The line of a member's cash, and nothing where there is none.
use borrow.Author.Tests.{ne_eqb}
use Prim.Native.Nat.{ℕ, ◌+◌, ◌/◌, ◌%◌}
use mathlib.Core.Bool.{not}
use mathlib.Core.Path.{sym, ap, ◌∙◌}
use Rattle.plain.specs.Lists.{◌is_not◌}
use Rattle.book.specs.Meaning.{ledger_of}
use Rattle.listing.proofs.Rows.{put-listed, put-unlisted}
use Rattle.sheet_cash.specs.Line.{cash_line}
use Rattle.sheet_cash.specs.Rows.{cash_row}
use Rattle.sheet_cash.proofs.rows.put_row.Goals as goal

pub returns-then-amount-eq0-clause-put : goal.returns-then-amount-eq0-clause-put
returns-then-amount-eq0-clause-put g c =
    let none = ap (λ (n : ℕ). n is_not 0) (sym c.cash-amount.ensures ∙ c.if-amount-eq0.true) in
    put-unlisted (cash_row c.args.page (ledger_of c.args.book.now).holdings) (c.args.number / 2 + 1, c.args.number % 2 + 1) c.args.out.now none

pub returns-clause-put : goal.returns-clause-put
returns-clause-put g c =
    let amount = c.cash-amount in
    let some = ap (λ (n : ℕ). n is_not 0) (sym amount.ensures) ∙ ap not (ne_eqb amount.result.0 0 c.if-amount-eq0.false) in
    let line = ap (cash_line c.args.page (c.args.number / 2 + 1) (c.args.number % 2 + 1)) amount.ensures in
    put-listed
    (cash_row c.args.page (ledger_of c.args.book.now).holdings) (c.args.number / 2 + 1, c.args.number % 2 + 1)
    c.args.out.now _ some line c.put_line.ensures.put
