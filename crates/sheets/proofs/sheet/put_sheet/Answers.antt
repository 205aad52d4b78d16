-- One part behind the other.
use Rattle.text.proofs.Putting.{put_then}
use Rattle.sheets.specs.Sheet.{sheet_of}
use Rattle.sheets.proofs.sheet.put_sheet.Goals as goal

pub returns : goal.returns
unfolding sheet_of
returns g c = put_then _ _ _ c.put_first_parts.ensures.put c.put_other_parts.ensures
