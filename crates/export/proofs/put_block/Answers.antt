-- What was read lies inside the buffer, and its lines fit behind those that wait.
use Rattle.std.proofs.Common.{rules, ℕ, ◌+◌, ◌/◌, [], take, ◌∙◌, arith, length-take}
use Rattle.std.proofs.lemmas.List.{length-take-le}
use Rattle.file.proofs.Walking.{records_length}
use Rattle.export.proofs.put_block.Goals as goal

pub put_records-requires : goal.put_records-requires
put_records-requires c =
    let fill = c.fill_records-filled in
    let bytes = take fill.result.size fill.new.input in
    omega (
      arith,
      records_length bytes,
      length-take fill.result.size fill.new.input,
      fill.auto.input,
      c.requires.0,
      c.requires.1,
      c.requires.2,
    )

pub returns : goal.returns
returns c =
    let fill = c.fill_records-filled in
    let size = length-take-le fill.result.size fill.new.input (omega (arith, fill.ensures.within.inside, fill.auto.input)) in
    record {
      size = fill.result.size;
      written = record {
        counted = omega (arith, records_length (take fill.result.size fill.new.input), size, c.div_ceil.ensures);
        printed = [];
        lines = c.put_records.ensures;
      };
      whole = λ e. fill.ensures.within.full e ∙ c.requires.0;
    }
