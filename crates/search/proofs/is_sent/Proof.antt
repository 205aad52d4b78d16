-- `search::is_sent` meets its contract: the words that were looked at tell that it does not, or the whole item is asked. Assumes nothing.
use mathlib.Core.Path.{sym, ap, ◌∙◌}
use borrow.Author.Rules.{rules}
use Rattle.rulebook.specs.Waiting.{sent_by}
use Rattle.search.proofs.is_sent.Statement.{statement}
use Rattle.search.proofs.is_sent.Tie as tie

returns : tie.Need-returns-then-not-may_bear
returns c =
    let s = c.before.before.before in
    λ d. sym (c.before.may_bear.ensures d s.args.sender (c.if-not-may_bear.true))

returns-2 : tie.Need-returns
returns-2 c =
    let s = c.before.before.before.before.before in
    λ d. c.sent_by.ensures ∙ ap (sent_by s.args.sender s.args.reference) (c.before.item_at.ensures d)

pub is_sent_spec : {M : Type 1} → statement M
is_sent_spec = tie.close (tie.spec (λ c κs. search rules) returns (λ c κs. search rules) (λ c κs. search rules) returns-2)
