-- `first_line::column_of` meets its contract: the places passed are others. Assumes nothing.
use Rattle.std.proofs.Common.{rules, nat_eq}
use borrow.Author.Tests.{tests}
use Rattle.std.proofs.lemmas.Iterator.{YieldsList-from_slice}
use Rattle.std.proofs.lemmas.Iterator.Search.{position_from_yields_List}
use Rattle.first_line.proofs.Heading.{column_found, counted_on}
use Rattle.first_line.proofs.column_of.Goals as goal

pub returns : goal.returns
returns c =
    column_found c.args.places.now c.args.place c.position.result c.map.result
    (position_from_yields_List (λ p. nat_eq p c.args.place) _ _ c.position.result c.position.ensures.ran (YieldsList-from_slice c.args.places.now cc)
    (λ x b q k. search (rules, tests)))
    (counted_on c.position.result c.map.result (λ i j h. search rules) c.map.ensures.cases)
