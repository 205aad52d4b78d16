-- In the first line the cell, in any other the field's name.
use borrow.Author.Tests.{eq-eqb, ne_eqb}
use mathlib.Core.Path.{ap, ◌∙◌}
use Rattle.cells.specs.Cells.{trim}
use Rattle.import_lines.specs.Told.{name_at}
use Rattle.import_lines.proofs.put_refused.Goals as goal

pub returns-then-why-ne1 : goal.returns-then-why-ne1
unfolding name_at
returns-then-why-ne1 g c = simp (ne_eqb _ _ c.if-why-ne1.true) (rw (← (c.as_bytes.ensures.value ∙ c.name-name.ensures.name)) c.put_told.ensures)

pub returns-then-why-eq0 : goal.returns-then-why-eq0
unfolding name_at
returns-then-why-eq0 g c = simp (eq-eqb _ _ c.if-why-ne1.false, eq-eqb _ _ c.if-why-eq0.true) c.put_told-then-why-eq0.ensures

pub returns : goal.returns
unfolding name_at
returns g c =
    simp (eq-eqb _ _ c.if-why-ne1.false, ne_eqb _ _ c.if-why-eq0.false) (rw (← (c.trimmed-name.ensures ∙ ap trim c.part.ensures)) c.put_told-2.ensures)
