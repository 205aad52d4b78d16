-- Whatever was printed, the bytes that were read are called.
use Rattle.std.proofs.Common.{◌∙◌}
use Rattle.std.proofs.lemmas.Bool.{false≢true}
use Rattle.printing.proofs.Blocks.{block_called}
use Rattle.desk.proofs.print_block.Goals as goal

pub returns-in_err-print_answers : goal.returns-in_err-print_answers
returns-in_err-print_answers c = record {
  size = c.fill_records-filled.result.size;
  called = block_called c.print_answers.ensures;
  whole = λ e. absurd (false≢true (rw e at c.from_residual.ensures.0));
}

pub print_custody-requires : goal.print_custody-requires
print_custody-requires c = c.print_answers.ensures.answered.kept

pub returns-in_err-print_custody : goal.returns-in_err-print_custody
returns-in_err-print_custody c = record {
  size = c.fill_records-filled.result.size;
  called = block_called c.print_answers.ensures;
  whole = λ e. absurd (false≢true (rw e at c.from_residual-in_err-print_custody.ensures.0));
}

pub returns-in_ok-print_custody : goal.returns-in_ok-print_custody
returns-in_ok-print_custody c = record {
  size = c.fill_records-filled.result.size;
  called = block_called c.print_answers.ensures;
  whole = λ e. c.fill_records-filled.ensures.within.full (cc) ∙ c.requires.1;
}

pub returns-else-eq : goal.returns-else-eq
returns-else-eq c = record {
  size = c.fill_records-filled.result.size;
  called = block_called c.print_answers.ensures;
  whole = λ e. c.fill_records-filled.ensures.within.full (cc) ∙ c.requires.1;
}
