-- `words::find` answers what the library's search of the places that were not passed over does.
use Rattle.std.proofs.Common.{◌≡◌, ◌-◌, rules, sym, ◌∙◌}
use Rattle.std.proofs.lemmas.Iterator.{YieldsList-from_range}
use Rattle.std.proofs.lemmas.Iterator.Search.{find_from_yields_List}
use Rattle.words.specs.Tables.{rows, is_key, place_of}
use Rattle.words.proofs.Places.{found_in_range}
use Rattle.words.proofs.Tables.{place_inside}
use Rattle.words.proofs.find.Goals as goal

place : (c : goal.After-find) → c.find.result ≡ place_of c.args.key c.args.table.now
unfolding place_of
place c =
    let n = rows c.args.table.now in
    let from = c.passed-from.result in
    let test = is_key c.args.table.now c.args.key in
    found_in_range test from (n - from) c.find.result
    (find_from_yields_List test _ _ c.find.result c.find.ensures.ran (YieldsList-from_range from n (n - from) (search rules) (search rules))
    (λ x b q called. search rules))
    ∙ sym c.passed-from.ensures.1

pub returns : goal.returns
returns c = record { place = place c; inside = place_inside c.args.table.now c.args.key c.find.result (place c) }
