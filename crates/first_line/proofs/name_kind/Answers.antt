-- `first_line::name_kind` meets its contract. Assumes nothing.
use Rattle.std.proofs.Common.{sym, ◌∙◌}
use Rattle.table.specs.Header.{name_kind}
use Rattle.first_line.proofs.name_kind.Goals as goal

pub returns-then-is_empty : goal.returns-then-is_empty
unfolding name_kind
returns-then-is_empty c = sym (simp (sym c.is_empty.ensures ∙ c.if-is_empty.true))

pub returns : goal.returns
unfolding name_kind
returns c = c.kind_of.ensures ∙ sym (simp (sym c.is_empty.ensures ∙ c.if-is_empty.false))
