-- `settlement::booking::debit_trade` meets its contract: the shares, then the cash. Assumes nothing.
use Rattle.std.proofs.Common.{ap, arith}
use Rattle.rulebook.specs.Ledger.{Holdings, put_balance}
use Rattle.rulebook.specs.Movements.{account, cash_of, debit, debits}
use Rattle.rulebook.specs.Shortfall.{seller}
use Rattle.rulebook.specs.Cycle.{legs}
use Rattle.book.specs.Meaning.{ledger_of}
use Rattle.book.specs.Stored.{HoldingsBecome}
use Rattle.settlement.proofs.Walking.{holdings_now, then_holdings}
use Rattle.settlement.proofs.booking.debit_trade.Goals as goal
use Rattle.settlement.proofs.booking.debit_trade.Goals.{After-debit}

-- the book after the shares are debited
shares :
    (c : After-debit)
    → HoldingsBecome (debit (account (seller c.args.trade)) c.args.trade.quantity.0) c.args.book.now c.debit.new.book
shares c = rw c.seller_of.ensures at c.debit.ensures

pub debit_cash-requires : goal.debit_cash-requires
unfolding debit put_balance
debit_cash-requires c =
    let t = c.args.trade in
    let s = shares (goal.at.debit_cash-requires c).After-debit in
    let h = ap (λ (x : Holdings). x.cash t.credited.member t.currency) (holdings_now (ledger_of c.args.book.now) _ _ s) in
    (s.stored, c.requires.1.bookable.pays, omega (arith, h, c.requires.1.cash))

pub returns : goal.returns
unfolding debits legs
returns c =
    let t = c.args.trade in
    let b = ledger_of c.args.book.now in
    then_holdings b _ (debit (account (seller t)) t.quantity.0 b.holdings) (shares (goal.at.returns c).After-debit)
    (debit (cash_of t.credited.member t.currency) t.amount.0) _
    c.debit_cash.ensures
