-- `item_tests::wrong_reference` meets its contract. Assumes nothing.
use mathlib.Core.Path.{sym, ap, ◌∙◌}
use borrow.Author.Rules.{rules}
use Rattle.rulebook.specs.Refusals.{wrong_reference}
use Rattle.std.specs.Prelude.{is_some}
use Rattle.search.proofs.Found.{found_some}
use Rattle.rulebook.proofs.Within.{not_waiting}
use Rattle.item_tests.proofs.wrong_reference.Statement.{statement}
use Rattle.item_tests.proofs.wrong_reference.Tie as tie

returns : tie.Need-returns-then-not-is_within
unfolding wrong_reference
returns c =
    let s = c.before.before.before in
    let none = not_waiting s.args.order.form (sym c.before.is_within.ensures ∙ c.if-not-is_within.true) in
    rw (none.0, none.1)

returns-2 : tie.Need-returns
unfolding wrong_reference
returns-2 c =
    let sent = c.before.before.first_sent.ensures in
    let sender = c.before.before.before.sender_of.ensures in
    let waits = c.before.is_some-waits.ensures ∙ ap is_some sent ∙ found_some _ 0 _ in
    rw (c.is_within-2.ensures, waits, sender)

pub wrong_reference_spec : {M : Type 1} → statement M
wrong_reference_spec =
    tie.close (tie.spec (λ c κs. search rules) returns (λ c κs. search rules) (λ c κs. search rules) (λ c κs. search rules) (λ c κs. search rules) returns-2)
