-- The head, the rows, the foot.
use Rattle.text.proofs.Putting.{put_then}
use Rattle.text_or_page.specs.Table.{table_of}
use Rattle.sheet_accounts.proofs.put_accounts.Goals as goal

pub returns-clause-put : goal.returns-clause-put
unfolding table_of
returns-clause-put g c = put_then _ _ _ (put_then _ _ _ c.put_in_page.ensures.put c.put_rows.ensures.put) c.put_foot.ensures.put
