-- An account's line (RULES 18.5).
use Rattle.std.specs.Prelude.{ℕ, Bool, List, [], ◌∷◌}
use Rattle.rulebook.specs.declared.Account.{Account}
use Rattle.text_or_page.specs.Written.{written}

-- security, member, type with its name, shareholder, balance
unfoldable pub account_line : (page : Bool) → Account → (balance : ℕ) → List ℕ
account_line page account balance =
    written page
    "ACCOUNT SECURITY # MEMBER # TYPE # (%) SHAREHOLDER # BALANCE #\n"
    "<tr><td class=n>#</td><td class=n>#</td><td class=n>#</td><td>%</td><td class=n>#</td><td class=n>#</td></tr>\n"
    (account.security ∷ account.member ∷ account.typ ∷ account.typ ∷ account.shareholder ∷ balance ∷ [])
