-- What was read lies inside the buffer, and is called.
use Rattle.std.proofs.Common.{◌∙◌}
use Rattle.std.proofs.lemmas.Bool.{false≢true}
use Rattle.statement.proofs.state_block.Goals as goal

pub returns-in_err-state_file : goal.returns-in_err-state_file
returns-in_err-state_file c =
    let f = c.state_file.ensures in
    record {
      size = c.fill_records-filled.result.size;
      called = record {
        records = f.records;
        left = f.left;
        first = f.first;
        all = λ e. absurd (false≢true (rw e at c.from_residual.ensures.0));
        stated = f.stated;
      };
      whole = λ e. absurd (false≢true (rw e at c.from_residual.ensures.0));
    }

pub returns : goal.returns
returns c =
    let filled = c.fill_records-filled in
    let f = c.state_file.ensures in
    record {
      size = filled.result.size;
      called = record { records = f.records; left = f.left; first = f.first; all = λ e. f.all c.in_ok-state_file.was; stated = f.stated };
      whole = λ e. filled.ensures.within.full (cc) ∙ c.requires.1;
    }
