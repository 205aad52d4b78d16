-- `order_line::field_number` meets its contract. Assumes nothing.
use Rattle.std.proofs.Common.{rules, sym, ◌∙◌}
use borrow.Author.Tests.{eq-eqb, ne_eqb}
use Rattle.table.specs.Lines.{field_number}
use Rattle.order_line.proofs.field_number.Goals as goal

pub returns-in-0 : goal.returns-in-0
unfolding field_number
returns-in-0 c = c.form_in.ensures ∙ sym (simp (eq-eqb _ _ c.in-0.is, ← c.trimmed-text.ensures))

pub returns-in-1 : goal.returns-in-1
unfolding field_number
returns-in-1 c = c.number_in.ensures ∙ sym (simp (c.in-1.is, ← c.trimmed-text.ensures))

pub returns-in_default : goal.returns-in_default
unfolding field_number
returns-in_default c = c.optional_in.ensures ∙ sym (simp (ne_eqb c.args.place 0 (search rules), ne_eqb c.args.place 1 (search rules), ← c.trimmed-text.ensures))
