-- `text::parts::part` meets its contract: the library's parts are those of the definition. Assumes nothing.
use Rattle.std.proofs.Common.{rules, refl}
use Rattle.std.proofs.lemmas.Iterator.Consumers.{nth_from_yields_List}
use Rattle.std.proofs.lemmas.Iterator.Splits.{YieldsList-from_slice_split}
use borrow.Author.Tests.{tests}
use lib.Dec.{eqb}
use Rattle.text.proofs.Cutting.{part_at}
use Rattle.text.proofs.parts.part.Goals as goal

pub returns : goal.returns
returns c =
    part_at c.args.mark c.args.bytes.now c.args.place c.nth.result _ _ (nth_from_yields_List c.nth.result _ c.args.place c.nth.ensures.ran
    (YieldsList-from_slice_split _ (λ b. eqb b c.args.mark) c.args.bytes.now c.split.ensures.rest c.split.ensures.done c.split.ensures.closure
    (λ x b q k. search (rules, tests)))) c.unwrap_or.ensures refl
