-- `cells::number_in` meets its contract: the digits passed give the number so far. Assumes nothing.
use Rattle.std.proofs.Common.{rules, sym, ap, ◌∙◌, Err, arith}
use Rattle.cells.specs.Cells.{number_in}
use Rattle.cells.proofs.Bytes.{no_digit, too_much, digit_on, all_read}
use Rattle.cells.proofs.number_in.Goals as goal

pub returns-then-is_empty : goal.returns-then-is_empty
unfolding number_in
returns-then-is_empty c = simp (sym c.is_empty.ensures ∙ c.if-is_empty.true)

pub loop-b-init : goal.loop-b-init
unfolding number_in
loop-b-init c = simp (sym c.is_empty.ensures ∙ c.if-is_empty.false)

pub returns-then-not-is_ascii_digit : goal.returns-then-not-is_ascii_digit
returns-then-not-is_ascii_digit c =
    ap Err c.kind_of.ensures ∙ no_digit _ _ c.args.text.now c.loop-b.b-index c.loop-b.invariant (search rules)
    (sym c.is_ascii_digit.ensures.value ∙ c.if-not-is_ascii_digit.true)

pub returns-then-digit-number : goal.returns-then-digit-number
returns-then-digit-number c =
    too_much _ _ c.args.text.now c.loop-b.b-index c.loop-b.invariant (search rules)
    (sym c.is_ascii_digit.ensures.value ∙ c.if-not-is_ascii_digit.false) (omega arith)

pub loop-b-preserved : goal.loop-b-preserved
loop-b-preserved c =
    rw c.from-digit.ensures (digit_on _ _ c.args.text.now c.loop-b.b-index c.loop-b.invariant (search rules)
    (sym c.is_ascii_digit.ensures.value ∙ c.if-not-is_ascii_digit.false) (omega arith))

pub returns : goal.returns
returns c = all_read _ _ c.args.text.now c.loop-b.b-index c.loop-b.invariant (search rules)
