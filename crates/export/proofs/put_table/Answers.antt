-- The first line waits in the buffer before the records' lines.
use Rattle.std.proofs.Common.{◌++◌, ap, ◌∙◌}
use Rattle.table_lines.specs.Exported.{name_line}
use Rattle.export.proofs.Blocks.{table_written_lem}
use Rattle.export.proofs.put_table.Goals as goal

pub returns : goal.returns
returns c = table_written_lem c.put_records.ensures (c.put_names.ensures ∙ ap (λ l. l ++ name_line) c.requires.1)
