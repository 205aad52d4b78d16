-- `requests::end_request`, by the place that the search answers.
use Rattle.std.proofs.Common.{◌≡◌, List, ℕ, arith, subst, sym, ap, ◌∙◌}
use Rattle.rulebook.specs.Ledger.{no_request, put_request}
use Rattle.rulebook.specs.declared.Request.{Request}
use Rattle.requests.specs.Packed.{key_of}
use Rattle.requests.specs.Map.{requests_of, Kept}
use Rattle.requests.proofs.Map.{asked-of, request_none}
use Rattle.requests.proofs.Changed.{removed-kept, removed-means}
use Rattle.requests.proofs.end_request.Goals as goal

pub returns-in-Some : goal.returns-in-Some
returns-in-Some c =
    let a = c.args in
    let words = a.requests.now in
    let there = sym c.in-Some.ensures.place in
    subst (λ (r : List ℕ). Kept r × (requests_of r ≡ put_request a.member a.reference no_request (requests_of words))) (sym c.remove_request.ensures) (
      removed-kept words c.requires.0 a.member a.reference c.requires.1 c.in-Some.i there,
      removed-means words c.requires.0 a.member a.reference c.requires.1 c.in-Some.i there,
    )

-- a request of some quantity stands somewhere
pub returns-in_default : goal.returns-in_default
returns-in_default c =
    let a = c.args in
    let none =
    asked-of a.requests.now a.member a.reference c.requires.1
    ∙ request_none a.requests.now c.requires.0 (key_of a.member a.reference) (sym c.in_default.ensures.place) in
    absurd (omega (arith, c.requires.2, ap (λ (r : Request). r.quantity.0) none))
