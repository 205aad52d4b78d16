-- One part behind the other.
use Rattle.text.proofs.Putting.{put_then}
use Rattle.sheet_day.specs.DayLine.{day_line}
use Rattle.sheet_day.proofs.line.put_line.Goals as goal

pub returns-clause-put : goal.returns-clause-put
unfolding day_line
returns-clause-put g c =
    put_then _ _ _ (put_then _ _ _ (put_then _ _ _ c.put_one.ensures.put c.put_open_or_closed.ensures.put) c.put_unanswered.ensures.put) c.put_rest.ensures.put
