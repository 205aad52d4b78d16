-- `cells::kind_of` meets its contract. Assumes nothing.
use Rattle.std.proofs.Common.{sym, ◌∙◌}
use Rattle.cells.proofs.Bytes.{with_quote, no_quote}
use Rattle.cells.proofs.kind_of.Goals as goal

pub returns-then-contains : goal.returns-then-contains
returns-then-contains c = with_quote c.args.kind c.args.text.now (sym c.contains.ensures.value ∙ c.if-contains.true)

pub returns-else-contains : goal.returns-else-contains
returns-else-contains c = no_quote c.args.kind c.args.text.now (sym c.contains.ensures.value ∙ c.if-contains.false)
