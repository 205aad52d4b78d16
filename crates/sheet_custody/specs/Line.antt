-- A security's line (RULES 18.8).
use Rattle.std.specs.Prelude.{ℕ, Bool, List, [], ◌∷◌}
use Rattle.rulebook.specs.declared.Security.{Security}
use Rattle.text_or_page.specs.Written.{written}

-- as the printing program has it (RULES 13.4): code, issued, held, outside
unfoldable pub security_line : (page : Bool) → Security → List ℕ
security_line page security =
    written page
    "CUSTODY # ISSUED # HELD # OUTSIDE #\n"
    "<tr><td class=n>#</td><td class=n>#</td><td class=n>#</td><td class=n>#</td></tr>\n"
    (security.code ∷ security.issued.0 ∷ security.held.0 ∷ security.outside.0 ∷ [])
