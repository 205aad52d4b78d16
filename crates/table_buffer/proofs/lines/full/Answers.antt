-- `table_buffer::lines::full` meets its contract. Assumes nothing.
use Rattle.std.proofs.Common.{◌+◌, ◌≤◌, arith, subst, sym, Err}
use Rattle.table.specs.declared.Refused.{Refused}
use Rattle.table_buffer.specs.Blocks.{Goes}
use Rattle.table_buffer.proofs.Laws.{full-refused, full-long, used-most, full-more}
use Rattle.table_buffer.proofs.lines.full.Goals as goal
use Rattle.table_buffer.proofs.lines.full.Goals.{In-Ok}

-- the lines end inside the buffer
most : (c : In-Ok) → c.args.reading.from + c.in-Ok.checked.used ≤ c.args.reading.size
most c = used-most _ _ _ _ _ _ c.requires.0 c.convert_block.ensures.value c.convert_block.ensures.out_after _ c.in-Ok.is

pub overflow_add-behind : goal.overflow_add-behind
overflow_add-behind c = omega (arith, most (goal.at.overflow_add-behind c).In-Ok, c.requires.0.ends, c.requires.0.input_long)

pub overflow_sub-held : goal.overflow_sub-held
overflow_sub-held c = omega (arith, most (goal.at.overflow_sub-held c).In-Ok)

pub move_down-requires : goal.move_down-requires
move_down-requires c = omega (arith, most (goal.at.move_down-requires c).In-Ok, c.requires.0.ends, c.requires.0.input_long)

pub returns-then-behind-eq0 : goal.returns-then-behind-eq0
returns-then-behind-eq0 c =
    let both = full-long _ _ _ _ _ _ c.requires.0 c.convert_block.ensures.value c.convert_block.ensures.out_after _ c.in-Ok.is _ in
    record {
      goes = subst (λ (why : Refused). Goes c.args.places.now c.args.reading c.args.input.now c.args.input.now (Err why)) (sym c.long_line.ensures) both.0;
      recorded = both.1;
    }

pub returns-in-Err : goal.returns-in-Err
returns-in-Err c =
    let both = full-refused _ _ _ _ _ _ c.requires.0 c.convert_block.ensures.value c.convert_block.ensures.out_after _ _ c.in-Err.is in
    record { goes = both.0; recorded = both.1 }

pub returns-else-behind-eq0 : goal.returns-else-behind-eq0
returns-else-behind-eq0 c =
    let both =
    full-more _ _ _ _ _ _ c.requires.0 c.convert_block.ensures.value c.convert_block.ensures.out_after _ c.in-Ok.is _ c.requires.1 c.move_down.ensures in
    record { goes = both.0; recorded = both.1 }
