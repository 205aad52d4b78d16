-- `cells::is_empty` meets its contract. Assumes nothing.
use Rattle.std.proofs.Common.{rules, ◌∙◌}
use borrow.Author.Tests.{tests}
use Rattle.std.proofs.lemmas.Iterator.{YieldsList-from_slice}
use Rattle.std.proofs.lemmas.Iterator.Search.{all_from_yields_List}
use Rattle.cells.specs.Cells.{blank}
use Rattle.cells.proofs.Bytes.{all-blank}
use Rattle.cells.proofs.is_empty.Goals as goal

pub returns : goal.returns
returns c =
    all_from_yields_List blank _ _ _ c.all.ensures.ran (YieldsList-from_slice c.args.line.now cc) (λ x b q k. search (rules, tests))
    ∙ all-blank c.args.line.now
