-- Of a file that could not be opened nothing is said.
use Rattle.std.proofs.Common.{[]}
use Rattle.import.specs.Reading.{Says}
use Rattle.import.proofs.read_file.Goals as goal

pub returns-in-Err : goal.returns-in-Err
unfolding Says
returns-in-Err g c = record { file = []; says = tt }
