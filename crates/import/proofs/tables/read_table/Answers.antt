-- The first line, and those behind it. Where the file could not be read nothing is said of it.
use Rattle.std.proofs.Common.{[]}
use Rattle.std.proofs.lemmas.Result.{err_from_is_err_and}
use Rattle.import.specs.Reading.{Says}
use Rattle.import.proofs.Laws.{header_refused}
use Rattle.import.proofs.tables.read_table.Goals as goal

pub returns-in_err-reading : goal.returns-in_err-reading
unfolding Says
returns-in_err-reading g c =
    let p = err_from_is_err_and c.from_residual.result c.from_residual.ensures.1 in
    rw (p.1, p.2, c.in_err-reading.ensures.0) (record { file = []; says = tt })

pub returns-in-Err : goal.returns-in-Err
returns-in-Err g c =
    rw c.refused.ensures
    (header_refused c.read_on.new.input c.in_ok-reading.reading c.first_line-first.result c.first_line-first.ensures c.in-Err.wrong c.in-Err.is)
