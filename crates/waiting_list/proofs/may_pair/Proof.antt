-- `waiting_list::may_pair` meets its contract: another quantity, or no single. Assumes nothing.
use mathlib.Core.Path.{ap, ◌∙◌}
use borrow.Author.Rules.{rules}
use Rattle.rulebook.specs.declared.Shares.{Shares}
use Rattle.waiting_list.proofs.Filters.{pairs_none, pairs_no_single}
use Rattle.waiting_list.proofs.may_pair.Statement.{statement}
use Rattle.waiting_list.proofs.may_pair.Tie as tie

returns : tie.Need-returns-then-items-at
returns c =
    let s = c.before.before.before in
    λ d a limit q e. pairs_none s.args.items.now s.args.i s.requires.1 limit a d (λ p. c.if-items-at.true (p ∙ ap (λ (x : Shares). x.0) q))

returns-2 : tie.Need-returns
returns-2 c =
    let s = c.before.before.before.before in
    λ d a limit q e. pairs_no_single s.args.items.now s.args.i s.requires.1 limit a d e

pub may_pair_spec : {M : Type 1} → statement M
may_pair_spec =
    tie.close
    (tie.spec (λ c. search rules) (λ c. search rules) (λ c. search rules) (λ c. search rules) (λ c. search rules) returns (λ c. search rules)
    (λ c. search rules) (λ c. search rules) returns-2)
