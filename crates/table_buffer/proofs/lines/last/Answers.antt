-- `table_buffer::lines::last` meets its contract. Assumes nothing.
use Rattle.table_buffer.proofs.Laws.{last_refused, last_ended}
use Rattle.table_buffer.proofs.lines.last.Goals as goal

pub returns-in-Err : goal.returns-in-Err
returns-in-Err c =
    let both = last_refused _ _ _ _ _ _ c.requires c.convert_block.ensures.value c.convert_block.ensures.out_after _ _ c.in-Err.is in
    record { goes = both.0; recorded = both.1 }

pub returns-in-Ok : goal.returns-in-Ok
returns-in-Ok c =
    let both = last_ended _ _ _ _ _ _ c.requires c.convert_block.ensures.value c.convert_block.ensures.out_after _ _ c.in-Ok.is in
    record { goes = both.0; recorded = both.1 }
