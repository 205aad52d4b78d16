-- `waiting_list::may_bear` meets its contract: neither reference is that one. Assumes nothing.
use mathlib.Core.Path.{sym}
use mathlib.Core.Bool.{false≢true}
use borrow.Author.Rules.{rules}
use borrow.Author.Tests.{ne_eqb}
use Rattle.waiting_list.proofs.Filters.{bears_none}
use Rattle.waiting_list.proofs.may_bear.Statement.{statement}
use Rattle.waiting_list.proofs.may_bear.Tie as tie

returns : tie.Need-returns-then-reference-items
returns c = λ d sender e. absurd (false≢true (sym e))

returns-2 : tie.Need-returns
returns-2 c =
    let s = c.before.before.before in
    λ d sender e. bears_none s.args.items.now s.args.i s.requires.1 s.args.reference (ne_eqb _ _ c.before.if-reference-items.false) e d sender

pub may_bear_spec : {M : Type 1} → statement M
may_bear_spec =
    tie.close
    (tie.spec (λ c. search rules) (λ c. search rules) (λ c. search rules) (λ c. search rules) (λ c. search rules) returns (λ c. search rules)
    (λ c. search rules) (λ c. search rules) returns-2)
