-- One half behind the other.
use Rattle.text.proofs.Putting.{put_then}
use Rattle.sheet_state.specs.State.{halves_of}
use Rattle.sheet_state.proofs.marks.put_halves.Goals as goal

pub returns-clause-put : goal.returns-clause-put
unfolding halves_of
returns-clause-put g c = put_then _ _ _ c.put_where.ensures.put c.put_where-2.ensures.put
