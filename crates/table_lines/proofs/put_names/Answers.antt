-- The bytes are the fields' names.
use Rattle.rulebook.specs.Names.{field_names}
use Rattle.text.specs.Parts.{join}
use Rattle.table_lines.specs.Exported.{name_line}
use Rattle.table_lines.proofs.put_names.Goals as goal

pub returns : goal.returns
unfolding name_line join field_names
returns g c = c.put.ensures
