-- One part behind the other.
use Rattle.text.proofs.Putting.{put_then}
use Rattle.sheets.specs.Sheet.{first_parts}
use Rattle.sheets.proofs.sheet.put_first_parts.Goals as goal

pub returns-clause-put : goal.returns-clause-put
unfolding first_parts
returns-clause-put g c =
    let named = rw c.day-day.ensures at c.put_heading.ensures.put in
    put_then _ _ _ (put_then _ _ _ (put_then _ _ _ c.put_in_page.ensures.put named) c.put_day.ensures.put) c.put_waiting.ensures.put
