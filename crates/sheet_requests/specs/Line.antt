-- A request's line (RULES 18.7).
use Rattle.std.specs.Prelude.{ℕ, Bool, List, [], ◌∷◌}
use Rattle.rulebook.specs.declared.Request.{Request}
use Rattle.text_or_page.specs.Written.{written}

-- member, reference, security, the type that the shares came from, shareholder, quantity, day
unfoldable pub request_line : (page : Bool) → (member reference : ℕ) → Request → List ℕ
request_line page member reference request =
    written page
    "REQUEST MEMBER # REFERENCE # SECURITY # TYPE # (%) SHAREHOLDER # QUANTITY # DAY #\n"
    "<tr><td class=n>#</td><td class=n>#</td><td class=n>#</td><td class=n>#</td><td>%</td><td class=n>#</td><td class=n>#</td><td class=n>#</td></tr>\n"
    (
    member ∷ reference ∷ request.security ∷ request.typ ∷ request.typ ∷ request.shareholder ∷ request.quantity.0 ∷ request.day
    ∷ []
    )
