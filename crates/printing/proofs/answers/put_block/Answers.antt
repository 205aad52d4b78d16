-- A block has a record for each 40 bytes, and a short tail is one: their lines fit the buffer.
use Rattle.std.proofs.Common.{rules, arith}
use Rattle.file.proofs.Walking.{records_length}
use Rattle.printing.proofs.answers.put_block.Goals as goal

pub put_answers-requires : goal.put_answers-requires
put_answers-requires g c =
    let records = records_length c.args.block.now in
    (search rules, (c.requires.0, omega arith, omega arith))

pub returns : goal.returns
returns g c = record {
  answered = c.put_answers.ensures;
  numbered = omega (arith, records_length c.args.block.now, c.div_ceil.ensures);
}
