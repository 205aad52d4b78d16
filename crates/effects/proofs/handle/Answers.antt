-- `effects::handle` meets its contract: each form is handled as the table of forms has it, and every form has an arm. Assumes nothing.
use Rattle.std.proofs.Common.{◌≡◌, ℕ, ◌+◌, ◌<◌, ◌≤◌, arith}
use borrow.Author.Tests.{le-leb}
use Rattle.rulebook.specs.Forms.{forms, row_of}
use Rattle.rulebook.proofs.ByCall.{HasForm, effect-at}
use Rattle.rulebook.proofs.Within.{instruction}
use Rattle.checking.proofs.Orders.{ranges}
use Rattle.effects.proofs.ByForm.{transfer-is, instruct-is, as_effect}
use Rattle.effects.proofs.handle.Goals as goal
use Rattle.effects.proofs.handle.Goals.{In-5, In-12, in_default-via-then-form-lt1, in_default-via-else-form-lt1+else-form-lt10+else-form-lt14}

-- past one number more
past : (k n : ℕ) → k ≤ n → (n ≡ k → ⊥) → k + 1 ≤ n
past k n l a = omega (arith, a)

-- ---- the forms that share a handler, past those before them

transfers : (c : In-5) → (5 ≤ c.args.order.form) × (c.args.order.form < 10)
transfers c =
    let rest = c.in-5.in_default-own.rest.0.0.0.0.0.0.0.0.0.0 in
    (past 4 _ (past 3 _ (past 2 _ (past 1 _ c.in-5.if-form-lt1-own.false rest.0.0.0.1) rest.0.0.1) rest.0.1) rest.1, c.in-5.if-form-lt10-own.true)

instructs : (c : In-12) → (12 ≤ c.args.order.form) × (c.args.order.form < 14)
instructs c =
    let rest = c.in-12.in_default-own.rest.0.0.0.0.0.0.0.0 in
    (past 11 _ (past 10 _ c.in-12.if-form-lt10-own.false rest.0.1) rest.1, c.in-12.if-form-lt14-own.true)

pub returns-in-1 : goal.returns-in-1
unfolding forms row_of
returns-in-1 c = as_effect _ _ (effect-at 1 _ _ c.in-1.is) (c.open_day.ensures _)

pub returns-in-2 : goal.returns-in-2
unfolding forms row_of
returns-in-2 c = as_effect _ _ (effect-at 2 _ _ c.in-2.is) c.admit.ensures

pub returns-in-3 : goal.returns-in-3
unfolding forms row_of
returns-in-3 c = as_effect _ _ (effect-at 3 _ _ c.in-3.is) c.deposit.ensures

pub returns-in-4 : goal.returns-in-4
unfolding forms row_of
returns-in-4 c = as_effect _ _ (effect-at 4 _ _ c.in-4.is) c.withdraw.ensures

pub returns-in-10 : goal.returns-in-10
unfolding forms row_of
returns-in-10 c = as_effect _ _ (effect-at 10 _ _ c.in-10.is) c.pay_in.ensures

pub returns-in-11 : goal.returns-in-11
unfolding forms row_of
returns-in-11 c = as_effect _ _ (effect-at 11 _ _ c.in-11.is) c.pay_out.ensures

pub returns-in-14 : goal.returns-in-14
unfolding forms row_of
returns-in-14 c = as_effect _ _ (effect-at 14 _ _ c.in-14.is) (c.trade.ensures _)

pub returns-in-15 : goal.returns-in-15
unfolding forms row_of
returns-in-15 c = as_effect _ _ (effect-at 15 _ _ c.in-15.is) c.cancel.ensures

pub returns-in-16 : goal.returns-in-16
unfolding forms row_of
returns-in-16 c = as_effect _ _ (effect-at 16 _ _ c.in-16.is) (c.send.ensures _ _)

pub returns-in-17 : goal.returns-in-17
unfolding forms row_of
returns-in-17 c = as_effect _ _ (effect-at 17 _ _ c.in-17.is) c.close.ensures

pub returns-in-18 : goal.returns-in-18
unfolding forms row_of
returns-in-18 c = as_effect _ _ (effect-at 18 _ _ c.in-18.is) (c.set_rate.ensures _)

pub returns-in-19 : goal.returns-in-19
unfolding forms row_of
returns-in-19 c = as_effect _ _ (effect-at 19 _ _ c.in-19.is) c.request_paper.ensures

pub returns-in-20 : goal.returns-in-20
unfolding forms row_of
returns-in-20 c = as_effect _ _ (effect-at 20 _ _ c.in-20.is) c.end_request.ensures

pub returns-in-21 : goal.returns-in-21
unfolding forms row_of
returns-in-21 c = as_effect _ _ (effect-at 21 _ _ c.in-21.is) c.answer_cycle.ensures

pub transfer-requires : goal.transfer-requires
transfer-requires c =
    let f = transfers (goal.at.transfer-requires c).In-5 in
    (c.requires, f.0, omega (arith, f.1))

pub returns-in-5 : goal.returns-in-5
returns-in-5 c =
    let f = transfers (goal.at.returns-in-5 c).In-5 in
    as_effect _ _ (transfer-is _ _ f.0 f.1) c.transfer.ensures

pub instruct-requires : goal.instruct-requires
instruct-requires c =
    let f = instructs (goal.at.instruct-requires c).In-12 in
    (c.requires.given, instruction c.args.order.form (rw (le-leb _ _ f.0, le-leb c.args.order.form 13 (omega (arith, f.1)))))

pub returns-in-12 : goal.returns-in-12
returns-in-12 c =
    let f = instructs (goal.at.returns-in-12 c).In-12 in
    as_effect _ _ (instruct-is _ _ f.0 f.1) (c.instruct.ensures _)

-- every form has an arm
pub returns-in_default : goal.returns-in_default
unfolding forms
returns-in_default c =
    let n : ℕ = c.args.order.form in
    let has : HasForm n = (ranges _ c.requires.given.read).form in
    let rest = c.in_default-1.rest in
    elim c.in_default.branch [
      | in_default-via-then-form-lt1 w ↦ absurd (omega (arith, has.0))
      | in_default-via-else-form-lt1+else-form-lt10+else-form-lt14 w ↦
          let fourteen : 14 ≤ n = omega arith in
          let cycle = past 15 _ (past 14 _ fourteen rest.0.0.0.0.0.0.0.1) rest.0.0.0.0.0.0.1 in
          let rate = past 18 _ (past 17 _ (past 16 _ cycle rest.0.0.0.0.0.1) rest.0.0.0.0.1) rest.0.0.0.1 in
          let paper = past 20 _ (past 19 _ rate rest.0.0.1) rest.0.1 in
          absurd (omega (arith, past 21 _ paper rest.1, has.1))
    ]
