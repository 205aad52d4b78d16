-- A waiting item's line (RULES 18.4).
use Rattle.std.specs.Prelude.{ℕ, Bool, List, [], ◌∷◌, ◌++◌}
use Rattle.rulebook.specs.declared.Item.{Item}
use Rattle.text_or_page.specs.Written.{written, cents}
use Rattle.sheet_state.specs.State.{state_of, sent_of, marks_of}

-- the debited and the credited party, security, quantity, amount, currency and days
unfoldable pub terms_of : (page : Bool) → Item → List ℕ
terms_of page item =
    written page
    " FROM #/#/# TO #/#/# SECURITY # QUANTITY # AMOUNT #.## $ TRADED # SETTLES #"
    "<td>#/#/#</td><td>#/#/#</td><td class=n>#</td><td class=n>#</td><td class=n>#.##</td><td>$</td><td class=n>#</td><td class=n>#</td><td>"
    (
    item.debited.member ∷ item.debited.typ ∷ item.debited.shareholder
    ∷ item.credited.member ∷ item.credited.typ ∷ item.credited.shareholder
    ∷ item.security ∷ item.quantity.0
    ∷ cents item.amount.0 (item.currency ∷ item.trade_day ∷ item.settlement_day ∷ [])
    )

-- behind the terms, whether a sent cycle has fixed the item, and the marks of a pair
unfoldable pub item_line : (page : Bool) → Item → List ℕ
item_line page item =
    state_of page item.state ++ terms_of page item ++ sent_of page item.sent ++ marks_of page item.state ++ written page "\n" "</td></tr>\n" []
