-- `movements::pay_out` meets its contract. Assumes nothing.
use native.Mathlib.Omega.{arith}
use borrow.Author.Rules.{rules}
use Rattle.rulebook.specs.Movements.{cash_of, member0, credit}
use Rattle.rulebook.specs.Rows.{posting_rows, posting_of}
use Rattle.rulebook.specs.Premise.{CashFits}
use Rattle.rulebook.specs.Forms.{pay_out}
use Rattle.book.specs.Meaning.{ledger_of}
use Rattle.checking.proofs.Orders.{payer}
use Rattle.movements.proofs.Known.{pay_out_enough, cash_row_lem}
use Rattle.booking.proofs.Moved.{moved}
use Rattle.movements.proofs.pay_out.Statement.{statement}
use Rattle.movements.proofs.pay_out.Tie as tie

abbrev start : tie.After-debit_cash → tie.Start
start c = c.before.before.before.before.before

fits : (s : tie.Start) → CashFits s.args.order.debited.member s.args.order.currency
fits s = payer _ s.requires.0.given.read s.requires.1

debit-cash-requires : tie.Need-debit_cash-requires
debit-cash-requires c κs = let s = c.before.before.before in (s.requires.0.given.kept.stored, fits s.before, pay_out_enough _ _ s.requires.0.given s.requires.1)

write-cash-requires : tie.Need-write_cash-requires
write-cash-requires c κs =
    let s = start c.before.before.before.before in
    let rows = cash_row_lem _ _ (fits s) in
    (omega (arith, s.requires.0.room), rows.0, rows.1)

returns : tie.Need-returns
unfolding pay_out credit posting_rows posting_of
returns c =
    let wrote = c.before.before.before in
    let booked = wrote.before.before.before.before in
    let s = start booked.before in
    let order = s.args.order in
    moved (ledger_of s.args.book.now) c.two_rows.ensures
    (cash_of order.debited.member order.currency) (member0 order.currency) order.amount.0 booked.debit_cash.ensures
    wrote.write_cash.ensures

pub pay_out_spec : {M : Type 1} → statement M
pay_out_spec =
    tie.close (tie.spec debit-cash-requires write-cash-requires (λ c κs. search rules) (λ c. search rules) (λ c. search rules) returns)
