-- `rows::write_trade` meets its contract: the cash rows go behind the shares' rows. Assumes nothing.
use Prim.Native.Nat.{ℕ}
use mathlib.Core.Path.{sym, ap, ap₂, subst, ◌∙◌}
use mathlib.Core.List.{List, [], ◌∷◌, ◌++◌}
use native.Mathlib.Omega.{arith}
use lib.ListN.{drop}
use borrow.Author.Rules.{rules}
use Rattle.rulebook.specs.Ledger.{account_of}
use Rattle.rulebook.specs.Movements.{Movement, account, cash_of, move}
use Rattle.rulebook.specs.Shortfall.{seller, buyer}
use Rattle.rulebook.specs.Rows.{posting_rows, rows_bytes}
use Rattle.rulebook.specs.declared.Account.{Account}
use Rattle.rulebook.specs.declared.Item.{Item}
use Rattle.rulebook.specs.Ranges.{AccountInRange}
use Rattle.rows.proofs.Area.{behind, movement_rows, trade-rows}
use Rattle.rows.proofs.write_trade.Statement.{statement}
use Rattle.rows.proofs.write_trade.Tie as tie

-- where both accounts are named
abbrev named : tie.After-write_shares → tie.After-buyer_of-buyer
named c = c.before.before.before

write-shares-requires : tie.Need-write_shares-requires
write-shares-requires c κs =
    let s = c.before.before.before.before in (
      search rules,
      subst AccountInRange (sym c.before.before.seller_of-seller.ensures) s.requires.1.debited,
      subst AccountInRange (sym c.before.buyer_of-buyer.ensures) s.requires.1.credited,
    )

write-cash-requires : tie.Need-write_cash-requires
unfolding seller buyer account_of
write-cash-requires c κs = search rules

returns : tie.Need-returns
returns c =
    let wrote = c.before.before.before.before.before.before.before in
    let s = (named wrote).before.before.before in
    let t : Item = s.args.trade in
    let shares : Movement = move (account (seller t)) (account (buyer t)) t.quantity.0 in
    let rows_of : Account → Account → List ℕ =
    λ from to. rows_bytes (posting_rows (move (account from) (account to) t.quantity.0 ∷ [])) ++ drop 32 s.args.area.now in
    let cash : Movement = move (cash_of t.credited.member t.currency) (cash_of t.debited.member t.currency) t.amount.0 in
    behind s.args.area.now _ _ (rows_bytes (posting_rows (shares ∷ []))) (rows_bytes (posting_rows (cash ∷ []))) 32 32
    (wrote.write_shares.ensures ∙ ap₂ rows_of (named wrote).before.seller_of-seller.ensures (named wrote).buyer_of-buyer.ensures)
    (movement_rows shares)
    (movement_rows cash)
    (omega arith)
    c.before.before.write_cash.ensures
    ∙ ap (λ (x : List ℕ). x ++ drop 64 s.args.area.now) (trade-rows t)

pub write_trade_spec : {M : Type 1} → statement M
write_trade_spec =
    tie.close
    (tie.spec (λ c κs. search rules) (λ c κs. search rules) write-shares-requires (λ c. search rules) (λ c. search rules) (λ c. search rules)
    write-cash-requires (λ c. search rules) returns)
