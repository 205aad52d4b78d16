-- `order_line::write_row` meets its contract: the line's fields, then the record writer. Assumes nothing.
use Rattle.std.proofs.lemmas.Result.{err_from_is_err_and}
use Rattle.std.proofs.Common.{refl, sym, ◌∙◌, Ok, Err}
use Rattle.table.specs.Lines.{row_written}
use Rattle.order_line.proofs.Writing.{row-unread, row_told}
use Rattle.order_line.proofs.write_row.Goals as goal

pub returns-in_err-values : goal.returns-in_err-values
unfolding row_written
returns-in_err-values c =
    let p = err_from_is_err_and c.from_residual.result c.from_residual.ensures.1 in
    rw (p.1, p.2) (record { value = row-unread _ _ _ (sym (c.in_err-values.was) ∙ c.line_fields.ensures); out_after = refl })

pub returns-in-Ok : goal.returns-in-Ok
returns-in-Ok c =
    let both =
    row_told _ _ _ (sym c.in_ok-values.was ∙ c.line_fields.ensures) _ c.order_of-order.ensures c.args.out.now c.requires.2 (Ok tt)
    (sym c.in-Ok.is ∙ c.write.ensures.answered)
    in
    record { value = both.0; out_after = c.write.ensures.written ∙ both.1 }

pub returns-in-Err : goal.returns-in-Err
unfolding row_written
returns-in-Err c =
    let both =
    row_told _ _ _ (sym c.in_ok-values.was ∙ c.line_fields.ensures) _ c.order_of-order.ensures c.args.out.now c.requires.2 (Err _)
    (sym c.in-Err.is ∙ c.write.ensures.answered)
    in
    record { value = rw (c.wrong_order.ensures, c.into.ensures) both.0; out_after = c.write.ensures.written ∙ both.1 }
