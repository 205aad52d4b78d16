-- `cells::blanks_behind` meets its contract. Assumes nothing.
use Rattle.std.proofs.Common.{rules, not}
use borrow.Author.Tests.{tests}
use Rattle.std.proofs.lemmas.Iterator.Adapters.{YieldsList-from_rev_slice}
use Rattle.std.proofs.lemmas.Iterator.Search.{position_from_yields_List}
use Rattle.cells.specs.Cells.{blank}
use Rattle.cells.proofs.Bytes.{behind_blanks}
use Rattle.cells.proofs.blanks_behind.Goals as goal

pub returns : goal.returns
returns c =
    behind_blanks c.args.text.now c.position.result
    (position_from_yields_List (λ b. not (blank b)) _ _ c.position.result c.position.ensures.ran (YieldsList-from_rev_slice c.args.text.now cc)
    (λ x b q k. search (rules, tests)))
    c.unwrap_or.ensures
