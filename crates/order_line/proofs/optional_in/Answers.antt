-- `order_line::optional_in` meets its contract. Assumes nothing.
use Rattle.std.proofs.Common.{sym, ◌∙◌}
use Rattle.table.specs.Lines.{optional_in}
use Rattle.order_line.proofs.optional_in.Goals as goal

pub returns-then-is_empty : goal.returns-then-is_empty
unfolding optional_in
returns-then-is_empty c = sym (simp (sym c.is_empty.ensures ∙ c.if-is_empty.true))

pub returns : goal.returns
unfolding optional_in
returns c = c.number_in.ensures ∙ sym (simp (sym c.is_empty.ensures ∙ c.if-is_empty.false))
