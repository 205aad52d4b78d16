-- A walk over the pieces meets the records.
use Rattle.std.proofs.Common.{ap}
use Rattle.file.proofs.Walking.{always_records}
use Rattle.file.proofs.records.Goals as goal
use Rattle.file.specs.Records.{records_of}

pub returns-clause-records : goal.returns-clause-records
returns-clause-records c = always_records _ _ c.chunks.ensures.size (ap records_of c.chunks.ensures.rest)
