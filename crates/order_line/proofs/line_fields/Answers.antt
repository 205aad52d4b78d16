-- `order_line::line_fields` meets its contract. Assumes nothing.
use Rattle.std.proofs.Common.{◌≡◌, ◌<◌, ◌≤◌, rules, arith, sym, ap, ◌∙◌, length, get_or, nat_eq, Err, length-set}
use borrow.Author.Tests.{tests}
use Rattle.std.proofs.lemmas.Iterator.Splits.{YieldsList-from_slice_split}
use Rattle.std.proofs.lemmas.Iterator.Consumers.{YieldsList-turn, YieldsList-end}
use Rattle.std.proofs.lemmas.List.{length_push}
use Rattle.cells.specs.Cells.{comma, cells}
use Rattle.cells.proofs.Splits.{cells-split}
use Rattle.table.specs.Lines.{line_fields}
use Rattle.order_line.proofs.Numbers.{all-cells, few_cells, many_cells, bad_cell, good_cell}
use Rattle.order_line.proofs.line_fields.Goals as goal
use Rattle.order_line.proofs.line_fields.Goals.{In-Some, In-None}

-- the cell of this turn is the next of the line's
turn : (c : In-Some) → (c.loop-cell.column < length (cells c.args.line.now)) × (c.in-Some.cell.now ≡ get_or (cells c.args.line.now) c.loop-cell.column c.in-Some.cell.now)
turn c =
    let t =
    YieldsList-turn (YieldsList-from_slice_split _ (λ b. nat_eq b comma) c.args.line.now (cc) (cc) (cc) (λ x b q k. search (rules, tests))) c.loop-cell.yielded _
    c.loop-cell.yielded_by _ _ c.in-Some.cell c.in-Some.is c.next.ensures.steps
    in
    rw (c.loop-cell.invariant.passed, ← cells-split c.args.line.now) t

-- no cell is left
ended : (c : In-None) → length (cells c.args.line.now) ≤ c.loop-cell.column
ended c =
    let t =
    YieldsList-end (YieldsList-from_slice_split _ (λ b. nat_eq b comma) c.args.line.now (cc) (cc) (cc) (λ x b q k. search (rules, tests))) c.loop-cell.yielded _
    c.loop-cell.yielded_by _ _ c.in-None.is c.next.ensures.steps
    in
    omega (arith, c.loop-cell.invariant.passed, t.1, ap length (cells-split c.args.line.now))

pub loop-cell-init : goal.loop-cell-init
unfolding line_fields
loop-cell-init c = record {
  few = search rules;
  long = search rules;
  passed = search rules;
  read = sym (simp c.requires.1);
}

pub returns-then-column-places : goal.returns-then-column-places
returns-then-column-places c =
    ap Err c.wrong.ensures
    ∙ many_cells c.args.places.now _ c.loop-cell.column _ _ c.loop-cell.invariant.read _ (turn (goal.at.returns-then-column-places c).In-Some) (omega arith)

pub loop-cell-preserved : goal.loop-cell-preserved
loop-cell-preserved c = record {
  few = omega (arith, c.loop-cell.invariant.few, c.if-column-places.false);
  long = length-set _ _ _ ∙ c.loop-cell.invariant.long;
  passed = omega (arith, length_push c.loop-cell.yielded c.in-Some.cell);
  read = good_cell c.args.places.now _ c.loop-cell.column _ _ c.loop-cell.invariant.read _ (turn (goal.at.loop-cell-preserved c).In-Some)
      (omega (arith, c.loop-cell.invariant.few, c.if-column-places.false)) _ (sym c.field_number.ensures ∙ c.in-Ok.is);
}

pub returns-in-Err : goal.returns-in-Err
returns-in-Err c =
    ap Err c.wrong-in-Err.ensures
    ∙ bad_cell c.args.places.now _ c.loop-cell.column _ _ c.loop-cell.invariant.read _ (turn (goal.at.returns-in-Err c).In-Some)
    (omega (arith, c.loop-cell.invariant.few, c.if-column-places.false)) _ (sym c.field_number.ensures ∙ c.in-Err.is)

pub returns-then-column-places-2 : goal.returns-then-column-places-2
returns-then-column-places-2 c =
    ap Err c.wrong-then-column-places-2.ensures
    ∙ few_cells c.args.places.now _ c.loop-cell.column _ _ c.loop-cell.invariant.read c.if-column-places-2.true (ended (goal.at.returns-then-column-places-2 c).In-None)

pub returns : goal.returns
returns c =
    all-cells c.args.places.now _ c.loop-cell.column _ _ c.loop-cell.invariant.read c.if-column-places-2.false (ended (goal.at.returns c).In-None)
