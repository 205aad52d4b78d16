-- `table_buffer::first::first_line` meets its contract. Assumes nothing.
use Rattle.std.proofs.Common.{arith, refl, sym, subst}
use Rattle.table_buffer.specs.declared.Rest.{Rest}
use Rattle.table_buffer.specs.First.{FirstRead}
use Rattle.table_buffer.proofs.Heading.{first-of_all, first-of_more, nothing_there}
use Rattle.table_buffer.proofs.first.first_line.Goals as goal

pub returns-then-start-block : goal.returns-then-start-block
returns-then-start-block c =
    nothing_there _ c.args.rest _ _ _ c.no_line.ensures c.text_start-start.ensures.0 refl c.text_start-start.ensures.1 c.if-start-block.true c.requires

pub returns-in-Ended : goal.returns-in-Ended
returns-in-Ended c =
    subst (λ (r : Rest). FirstRead c.args.block.now r c.headed.result) (sym c.in-Ended.is)
    (first-of_all _ _ _ _ c.text_start-start.ensures.0 c.text_start-start.ensures.1 c.end_of-end.ensures.0 c.end_of-end.ensures.1 c.headed.ensures
    (omega (arith, c.text_start-start.ensures.0, c.if-start-block.false)))

pub returns-else-end-block : goal.returns-else-end-block
returns-else-end-block c =
    subst (λ (r : Rest). FirstRead c.args.block.now r c.headed-in-More.result) (sym c.in-More.is)
    (first-of_more _ _ _ _ c.text_start-start.ensures.0 c.text_start-start.ensures.1 c.end_of-end.ensures.0 c.end_of-end.ensures.1 c.headed-in-More.ensures
    (omega (arith, c.end_of-end.ensures.1, c.if-end-block.false)) (omega (arith, c.requires c.in-More.is)))
