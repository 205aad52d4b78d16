-- What the buffer's lines came to, unless their records could not be written.
use Rattle.std.proofs.Common.{subst, Result}
use Rattle.table.specs.declared.Refused.{Refused}
use Rattle.table_buffer.specs.declared.Next.{Next}
use Rattle.table_buffer.specs.Blocks.{Goes}
use Rattle.import.specs.Reading.{Comes}
use Rattle.import.proofs.rows.convert.Goals as goal

pub returns-then-not-put : goal.returns-then-not-put
unfolding Comes
returns-then-not-put c = tt

pub returns-in-Ok : goal.returns-in-Ok
unfolding Comes
returns-in-Ok c =
    subst (λ (r : Result Next Refused). Goes c.args.places.now c.args.reading c.args.input.now c.convert-converted.new.input r) c.in-Ok.is
    c.convert-converted.ensures.goes

pub returns-in-Err : goal.returns-in-Err
unfolding Comes
returns-in-Err c =
    rw c.refused.ensures
    (subst (λ (r : Result Next Refused). Goes c.args.places.now c.args.reading c.args.input.now c.convert-converted.new.input r) c.in-Err.is
    c.convert-converted.ensures.goes)
