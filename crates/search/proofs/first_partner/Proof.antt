-- `search::first_partner` meets its contract. Assumes nothing.
use Prim.Native.Nat.{ℕ}
use mathlib.Core.Path.{ap, ◌∙◌}
use borrow.Author.Rules.{rules}
use Rattle.rulebook.specs.Matching.{tolerance, pairs_with}
use Rattle.book.specs.Meaning.{ledger_of}
use Rattle.search.specs.Place.{place_in}
use Rattle.search.proofs.first_partner.Statement.{statement}
use Rattle.search.proofs.first_partner.Tie as tie

-- the limit that was searched with is that of the book's rate
returns : tie.Need-returns
returns c =
    let rated = c.before.before in
    let a = rated.before.before.args in
    c.first_pairing.ensures
    ∙ ap (λ (limit : ℕ). place_in (pairs_with limit a.arriving) (ledger_of a.book.now).waiting)
    (c.before.tolerance_of-limit.ensures ∙ ap (λ (rate : ℕ). tolerance rate a.arriving.currency) rated.rate.ensures)

pub first_partner_spec : {M : Type 1} → statement M
first_partner_spec = tie.close (tie.spec (λ c κs. search rules) (λ c κs. search rules) (λ c κs. search rules) returns)
