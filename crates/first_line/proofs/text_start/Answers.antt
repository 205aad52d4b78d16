-- `first_line::text_start` meets its contract. Assumes nothing.
use Rattle.std.proofs.Common.{rules, sym, ◌∙◌, take}
use Rattle.table.specs.Import.{mark, unmarked}
use Rattle.first_line.proofs.Heading.{starts_same}
use Rattle.first_line.proofs.text_start.Goals as goal

pub returns-then-starts_with : goal.returns-then-starts_with
unfolding mark unmarked
returns-then-starts_with c = (
  search rules,
  sym (simp (sym (starts_same (take 3 c.args.file.now) mark) ∙ sym c.starts_with.ensures.value ∙ c.if-starts_with.true)),
)

pub returns : goal.returns
unfolding mark unmarked
returns c = (
  search rules,
  sym (simp (sym (starts_same (take 3 c.args.file.now) mark) ∙ sym c.starts_with.ensures.value ∙ c.if-starts_with.false)),
)
