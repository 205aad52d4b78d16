-- The netted cycle (RULES 9): what it fixes when it is sent, what is booked when it is confirmed, and what an account offers in between.
use Rattle.std.specs.Prelude.{ℕ, ◌-◌, false, not, List, [], ◌∷◌, map, length}
use Rattle.plain.specs.Lists.{total, keep}
use Rattle.rulebook.specs.declared.Account.{Account}
use Rattle.rulebook.specs.declared.Item.{Item}
use Rattle.rulebook.specs.Ledger.{Ledger, Holdings}
use Rattle.rulebook.specs.Movements.{account, cash_of, Movement, move}
use Rattle.rulebook.specs.Waiting.{with_sent}
use Rattle.rulebook.specs.Shortfall.{seller, buyer, takes, brings}
use Rattle.rulebook.specs.Selection.{Entry, is_sent, trades_left, selection}

-- RULES 9.19: the marks of a selection go onto the items, and so with them wherever their places are
unfoldable pub fixing : List Entry → List Item
fixing es = map (λ e. with_sent (is_sent es e) e.item) es

-- RULES 9.12: how many trades a cycle leaves
unfoldable pub left_by : Ledger → ℕ
left_by book = length (trades_left (selection book))

-- the items that bear the mark, in list order
unfoldable pub fixed : List Item → List Item
fixed = keep (λ item. item.sent)

-- RULES 9.10, 9.20: what a confirmation settles, and what waits on
unfoldable pub settled : Ledger → List Item
settled book = fixed book.waiting

unfoldable pub not_settled : Ledger → List Item
not_settled book = keep (λ item. not item.sent) book.waiting

-- RULES 9.11: each trade's movement of shares, then that of cash
unfoldable pub legs : List Item → List Movement
legs [] = []
legs (trade ∷ rest) =
    move (account (seller trade)) (account (buyer trade)) trade.quantity.0
    ∷ move (cash_of trade.credited.member trade.currency) (cash_of trade.debited.member trade.currency) trade.amount.0
    ∷ legs rest

-- RULES 9.21: no item is fixed any more
unfoldable pub declined : List Item → List Item
declined = map (with_sent false)

-- RULES 9.22: what an account offers: all but the shares by which the fixed trades debit it more than they credit it
unfoldable pub offers : Holdings → (waiting : List Item) → Account → ℕ
offers h waiting a = h.balance a - (total (takes (account a)) (fixed waiting) - total (brings (account a)) (fixed waiting))
