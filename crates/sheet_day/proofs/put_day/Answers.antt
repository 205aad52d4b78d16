-- The head, the day's line, the foot.
use Rattle.text.proofs.Putting.{put_then}
use Rattle.text_or_page.specs.Table.{table_of}
use Rattle.sheet_day.specs.DayLine.{day_head}
use Rattle.sheet_day.proofs.put_day.Goals as goal

pub returns-clause-put : goal.returns-clause-put
unfolding table_of day_head
returns-clause-put g c =
    put_then _ _ _ (put_then _ _ _ c.put_in_page.ensures.put (rw (c.day-day.ensures, c.rate-rate.ensures) at c.put_line.ensures.put)) c.put_foot.ensures.put
