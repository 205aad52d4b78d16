-- The line of a member's cash (RULES 18.6).
use Rattle.std.specs.Prelude.{ℕ, Bool, List, [], ◌∷◌}
use Rattle.text_or_page.specs.Written.{written, cents}

-- member, currency, amount
unfoldable pub cash_line : (page : Bool) → (member currency amount : ℕ) → List ℕ
cash_line page member currency amount =
    written page
    "CASH MEMBER # $ #.##\n"
    "<tr><td class=n>#</td><td>$</td><td class=n>#.##</td></tr>\n"
    (member ∷ currency ∷ cents amount [])
