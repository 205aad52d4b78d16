-- `movements::pay_in` meets its contract. Assumes nothing.
use native.Mathlib.Omega.{arith}
use borrow.Author.Rules.{rules}
use Rattle.rulebook.specs.Movements.{cash_of, member0, debit}
use Rattle.rulebook.specs.Rows.{posting_rows, posting_of}
use Rattle.rulebook.specs.Premise.{CashFits}
use Rattle.rulebook.specs.Forms.{pay_in}
use Rattle.book.specs.Meaning.{ledger_of}
use Rattle.movements.proofs.Known.{payee, pay_in_fits, cash_row_lem}
use Rattle.booking.proofs.Moved.{moved}
use Rattle.movements.proofs.pay_in.Statement.{statement}
use Rattle.movements.proofs.pay_in.Tie as tie

abbrev start : tie.After-credit_cash → tie.Start
start c = c.before.before.before.before.before

fits : (s : tie.Start) → CashFits s.args.order.credited.member s.args.order.currency
fits s = payee _ _ s.requires.0.given s.requires.1

credit-cash-requires : tie.Need-credit_cash-requires
credit-cash-requires c κs = let s = c.before.before.before in (s.requires.0.given.kept.stored, fits s.before, pay_in_fits _ _ s.requires.0.given)

write-cash-requires : tie.Need-write_cash-requires
write-cash-requires c κs =
    let s = start c.before.before.before.before in
    let rows = cash_row_lem _ _ (fits s) in
    (omega (arith, s.requires.0.room), rows.1, rows.0)

returns : tie.Need-returns
unfolding pay_in debit posting_rows posting_of
returns c =
    let wrote = c.before.before.before in
    let booked = wrote.before.before.before.before in
    let s = start booked.before in
    let order = s.args.order in
    moved (ledger_of s.args.book.now) c.two_rows.ensures
    (member0 order.currency) (cash_of order.credited.member order.currency) order.amount.0 booked.credit_cash.ensures
    wrote.write_cash.ensures

pub pay_in_spec : {M : Type 1} → statement M
pay_in_spec =
    tie.close (tie.spec credit-cash-requires write-cash-requires (λ c κs. search rules) (λ c. search rules) (λ c. search rules) returns)
