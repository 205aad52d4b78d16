-- `words::value` tells the word at the place that the search answers.
use Rattle.std.proofs.Common.{sym}
use Rattle.words.proofs.Tables.{place_at, value_at, value_none}
use Rattle.words.proofs.value.Goals as goal

pub returns-in-Some : goal.returns-in-Some
returns-in-Some c = let h = place_at _ _ _ (sym c.in-Some.ensures.place) in sym (value_at _ _ _ c.requires.0 _ h.0 h.1)

pub returns-in-None : goal.returns-in-None
returns-in-None c = sym (value_none _ _ c.args.column (sym c.in-None.ensures.place))
