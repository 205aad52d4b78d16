-- `first_line::header` meets its contract. Assumes nothing.
use Rattle.std.proofs.Common.{sym, ap, ◌∙◌, Err}
use Rattle.table.specs.Header.{header_of}
use Rattle.first_line.proofs.header.Goals as goal

pub returns-then-is_empty : goal.returns-then-is_empty
unfolding header_of
returns-then-is_empty c = ap Err c.wrong.ensures ∙ sym (simp (sym c.is_empty.ensures ∙ c.if-is_empty.true))

pub returns : goal.returns
unfolding header_of
returns c = c.columns.ensures ∙ sym (simp (sym c.is_empty.ensures ∙ c.if-is_empty.false))
