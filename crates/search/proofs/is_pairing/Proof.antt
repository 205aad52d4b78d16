-- `search::is_pairing` meets its contract: the words that were looked at tell that it does not, or the whole item is asked. Assumes nothing.
use mathlib.Core.Path.{refl, sym, ap, ◌∙◌}
use borrow.Author.Rules.{rules}
use Rattle.rulebook.specs.Matching.{pairs_with}
use Rattle.search.proofs.is_pairing.Statement.{statement}
use Rattle.search.proofs.is_pairing.Tie as tie

returns : tie.Need-returns-then-not-may_pair
returns c =
    let s = c.before.before.before in
    λ d. sym (c.before.may_pair.ensures d s.args.arriving s.args.limit.0 refl (c.if-not-may_pair.true))

returns-2 : tie.Need-returns
returns-2 c =
    let s = c.before.before.before.before.before in
    λ d. c.pairs_with.ensures ∙ ap (pairs_with s.args.limit.0 s.args.arriving) (c.before.item_at.ensures d)

pub is_pairing_spec : {M : Type 1} → statement M
is_pairing_spec = tie.close (tie.spec (λ c κs. search rules) returns (λ c κs. search rules) (λ c κs. search rules) returns-2)
