-- The bytes that were read are called.
use Rattle.std.proofs.Common.{◌∙◌}
use Rattle.printing.proofs.Blocks.{block_called}
use Rattle.sheet.proofs.call_block.Goals as goal

pub returns : goal.returns
returns c = record {
  size = c.fill_records-filled.result.size;
  called = block_called c.put_block.ensures;
  whole = λ e. c.fill_records-filled.ensures.within.full e ∙ c.requires.1;
}
