-- `search::first_pairing`: the library's search of the places finds the first item of the list that passes.
use Rattle.std.proofs.Common.{get_or, rules}
use Rattle.std.proofs.lemmas.Iterator.{YieldsList-from_range}
use Rattle.std.proofs.lemmas.Iterator.Search.{find_from_yields_List}
use mathlib.Core.List.{[]}
use Rattle.rulebook.specs.Matching.{pairs_with}
use Rattle.book.specs.Meaning.{waiting_of}
use Rattle.waiting_list.specs.Waiting.{item_of}
use Rattle.search.proofs.Found.{found_in_list}
use Rattle.search.proofs.first_pairing.Goals as goal

pub returns : goal.returns
returns c =
    let l = waiting_of c.args.book.now in
    let test = pairs_with c.args.limit.0 c.args.arriving in
    found_in_list test l (item_of []) c.items.result c.items.ensures c.find.result
    (find_from_yields_List (λ i. test (get_or l i (item_of []))) _ _ c.find.result c.find.ensures.ran
    (YieldsList-from_range 0 c.items.result c.items.result (search rules) (search rules)) (λ x b q called. search rules))
