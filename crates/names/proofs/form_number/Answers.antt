-- `names::form_number` meets its contract: the table is the forms' names. Assumes nothing.
use Rattle.std.proofs.Common.{rules, ◌≡◌, ◌+◌, true, false, refl, arith, MatchOption}
use Rattle.std.specs.Cmp.Lexicographic.{pointwise}
use Rattle.std.proofs.lemmas.Iterator.{YieldsList-from_slice, IsFirst-from_position}
use borrow.Author.Tests.{tests}
use lib.Dec.{eqb}
use Rattle.rulebook.specs.Forms.{forms}
use Rattle.names.specs.Numbers.{form_number}
use Rattle.names.proofs.Named.{form_numbered}
use Rattle.names.proofs.form_number.Goals as goal
use Rattle.names.proofs.form_number.Goals.{After-position}

found : (c : After-position) → MatchOption c.position.result (form_number c.args.name.now ≡ 0) (λ place. place + 1 ≡ form_number c.args.name.now)
unfolding forms
found c =
    form_numbered c.args.name.now c.iter.result.rest.now c.position.result (rw c.iter.ensures.rest)
    (IsFirst-from_position _ _ c.position.result (λ known. pointwise eqb c.args.name.now known.now ≡ true)
    (λ known. pointwise eqb c.args.name.now known.now ≡ false) c.position.ensures.ran (YieldsList-from_slice c.iter.result.rest.now refl)
    (λ x q k. search (rules, tests)) (λ x q k. search (rules, tests)))

pub returns-in_err-place : goal.returns-in_err-place
returns-in_err-place c =
    let none = rw c.in_err-place.was at (found (goal.at.returns-in_err-place c).After-position) in
    rw c.from_residual.ensures none

pub returns : goal.returns
returns c =
    let form = rw c.in_ok-place.was at (found (goal.at.returns c).After-position) in
    (omega arith, form)
