-- `settlement::booking::credit_trade` meets its contract: the shares, then the cash. Assumes nothing.
use Rattle.std.proofs.Common.{ap, arith}
use Rattle.rulebook.specs.Ledger.{Holdings, put_balance}
use Rattle.rulebook.specs.Movements.{account, cash_of, credit, credits}
use Rattle.rulebook.specs.Shortfall.{buyer}
use Rattle.rulebook.specs.Cycle.{legs}
use Rattle.book.specs.Meaning.{ledger_of}
use Rattle.book.specs.Stored.{HoldingsBecome}
use Rattle.settlement.proofs.Walking.{holdings_now, then_holdings}
use Rattle.settlement.proofs.booking.credit_trade.Goals as goal
use Rattle.settlement.proofs.booking.credit_trade.Goals.{After-credit}

-- the book after the shares are credited
shares :
    (c : After-credit)
    → HoldingsBecome (credit (account (buyer c.args.trade)) c.args.trade.quantity.0) c.args.book.now c.credit.new.book
shares c = rw c.buyer_of.ensures at c.credit.ensures

pub credit_cash-requires : goal.credit_cash-requires
unfolding credit put_balance
credit_cash-requires c =
    let t = c.args.trade in
    let s = shares (goal.at.credit_cash-requires c).After-credit in
    let h = ap (λ (x : Holdings). x.cash t.debited.member t.currency) (holdings_now (ledger_of c.args.book.now) _ _ s) in
    (s.stored, c.requires.1.bookable.paid, omega (arith, h, c.requires.1.cash))

pub returns : goal.returns
unfolding credits legs
returns c =
    let t = c.args.trade in
    let b = ledger_of c.args.book.now in
    then_holdings b _ (credit (account (buyer t)) t.quantity.0 b.holdings) (shares (goal.at.returns c).After-credit)
    (credit (cash_of t.debited.member t.currency) t.amount.0) _
    c.credit_cash.ensures
