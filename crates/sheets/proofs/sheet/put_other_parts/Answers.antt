-- One part behind the other.
use Rattle.text.proofs.Putting.{put_then}
use Rattle.sheets.specs.Sheet.{other_parts}
use Rattle.sheets.proofs.sheet.put_other_parts.Goals as goal

pub returns : goal.returns
unfolding other_parts
returns g c =
    let held = put_then _ _ _ c.put_accounts.ensures.put c.put_cash.ensures.put in
    put_then _ _ _ (put_then _ _ _ (put_then _ _ _ held c.put_requests.ensures.put) c.put_custody.ensures.put) c.put_in_page.ensures.put
