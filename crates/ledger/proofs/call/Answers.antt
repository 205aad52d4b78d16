-- `ledger::call` meets its contract: it ends in one of four ways. Assumes nothing.
use Rattle.std.proofs.Common.{sym}
use Rattle.std.proofs.lemmas.Result.{err_from_is_err_and}
use Rattle.checking.specs.Given.{WasRead, Given}
use Rattle.ledger.proofs.Calls.{too_short, unread, refuses, accepts}
use Rattle.ledger.proofs.call.Goals as goal
use Rattle.ledger.proofs.call.Goals.{In_ok-order, In_ok-check}

-- the order that was read
abbrev was_read : (c : In_ok-order) → WasRead c.in_ok-order.order
was_read c = record { octets = c.args.«record».now; read = sym c.in_ok-order.ensures.answered }

-- no refusal applies to it
abbrev given : (c : In_ok-check) → Given c.args.book.now c.in_ok-order.order
given c = record {
  kept = c.requires;
  read = record { octets = c.args.«record».now; read = sym c.in_ok-order.ensures.answered };
  passes = sym c.in_ok-check.ensures;
}

pub returns-then-area-lt4096 : goal.returns-then-area-lt4096
returns-then-area-lt4096 c = too_short _ _ _ c.requires c.if-area-lt4096.true

pub returns-in_err-order : goal.returns-in_err-order
returns-in_err-order c =
    let p = err_from_is_err_and c.from_residual.result c.from_residual.ensures.1 in
    rw (p.1, p.2) (unread _ _ _ c.requires c.if-area-lt4096.false _ (sym c.in_err-order.ensures.answered))

pub check-requires : goal.check-requires
check-requires c = (c.requires, was_read (goal.at.check-requires c).In_ok-order)

pub returns-in_err-check : goal.returns-in_err-check
returns-in_err-check c =
    let p = err_from_is_err_and c.from_residual-in_err-check.result c.from_residual-in_err-check.ensures.1 in
    rw (p.1, p.2) (refuses _ _ _ c.requires c.if-area-lt4096.false _ (sym c.in_ok-order.ensures.answered) _ c.in_err-check.ensures)

pub handle-counts-requires : goal.handle-counts-requires
handle-counts-requires c = record { given = given (goal.at.handle-counts-requires c).In_ok-check; room = c.if-area-lt4096.false }

pub returns : goal.returns
returns c =
    accepts _ _ _ c.requires c.if-area-lt4096.false _ (sym c.in_ok-order.ensures.answered) c.in_ok-check.ensures _ _ _ _ c.handle-counts.ensures
    c.put_minute.ensures
