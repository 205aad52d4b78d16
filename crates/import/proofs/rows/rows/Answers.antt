-- What the lines in the buffer come to is what those of the file come to, unless more may follow; then the next block is read behind what is left.
use Rattle.std.proofs.Common.{refl, subst, ◌∙◌, arith, Ok}
use Rattle.std.proofs.lemmas.Result.{err_from_is_err_and}
use Rattle.table_buffer.specs.declared.Next.{Next}
use Rattle.table_buffer.specs.Blocks.{Goes}
use Rattle.import.specs.Reading.{Comes}
use Rattle.import.proofs.Laws.{so_first, so_ended, so_stopped, so_on, so_failed}
use Rattle.import.proofs.rows.rows.Goals as goal

pub loop-turn-init : goal.loop-turn-init
loop-turn-init g c =
    let given = c.requires.1 in
    record {
      so = so_first c.args.places.now c.args.input.now c.args.first;
      starts = given.starts;
      ends = given.ends;
      input_long = refl;
      out_long = refl;
    }

pub returns-then-reading-ge-LAST : goal.returns-then-reading-ge-LAST
returns-then-reading-ge-LAST g c = so_failed c.loop-turn.invariant.so

pub returns : goal.returns
returns g c = so_failed c.loop-turn.invariant.so

pub returns-in_err-line : goal.returns-in_err-line
returns-in_err-line g c =
    let p = err_from_is_err_and c.from_residual.result c.from_residual.ensures.1 in
    rw (p.1, p.2) (so_stopped c.loop-turn.invariant.so c.convert.new.input _ c.in_err-line.ensures)

pub returns-in-Ended : goal.returns-in-Ended
returns-in-Ended g c =
    so_ended c.loop-turn.invariant.so c.convert.new.input c.in-Ended.line
    (subst (λ (n : Next). Comes c.args.places.now c.loop-turn.reading c.loop-turn.input c.convert.new.input (Ok n)) c.in-Ended.is c.in_ok-line.ensures)

pub read_on-requires : goal.read_on-requires
unfolding Comes Goes
read_on-requires g c =
    let on =
    subst (λ (n : Next). Comes c.args.places.now c.loop-turn.reading c.loop-turn.input c.convert.new.input (Ok n)) c.in-More.is c.in_ok-line.ensures
    in
    (c.convert.auto.input ∙ c.loop-turn.invariant.input_long ∙ c.requires.1.input_long, on.0)

pub returns-in_err-reading-in-More : goal.returns-in_err-reading-in-More
returns-in_err-reading-in-More g c =
    let p = err_from_is_err_and c.from_residual-in_err-reading-in-More.result c.from_residual-in_err-reading-in-More.ensures.1 in
    rw (p.1, p.2, c.in_err-reading-in-More.ensures.0) (so_failed c.loop-turn.invariant.so)

pub loop-turn-preserved : goal.loop-turn-preserved
loop-turn-preserved g c =
    let on = c.in_ok-reading-in-More.ensures in
    let left =
    subst (λ (n : Next). Comes c.args.places.now c.loop-turn.reading c.loop-turn.input c.convert.new.input (Ok n)) c.in-More.is c.in_ok-line.ensures
    in
    record {
      so = so_on c.loop-turn.invariant.so left on;
      starts = omega (arith, on.starts);
      ends = on.ends;
      input_long = c.read_on.auto.input ∙ c.convert.auto.input ∙ c.loop-turn.invariant.input_long;
      out_long = c.convert.auto.out ∙ c.loop-turn.invariant.out_long;
    }
