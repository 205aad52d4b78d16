-- `rows::write_cash` meets its contract. Assumes nothing.
use mathlib.Core.Path.{sym, subst}
use native.Mathlib.Omega.{arith}
use borrow.Author.Rules.{rules}
use Rattle.rulebook.specs.Movements.{cash_of, move}
use Rattle.rows.specs.Widths.{PostingFits}
use Rattle.rows.proofs.Area.{cash_fits, movement_written}
use Rattle.rows.proofs.write_cash.Statement.{statement}
use Rattle.rows.proofs.write_cash.Tie as tie

write-movement-requires : tie.Need-write_movement-requires
write-movement-requires c κs =
    let s = c.before.before.before.before in (
      search rules,
      subst PostingFits (sym c.before.cash_row.ensures) (cash_fits 0 _ _ _ (omega arith) s.requires.1 (search rules)),
      subst PostingFits (sym c.cash_row-2.ensures) (cash_fits 1 _ _ _ (omega arith) s.requires.2 (search rules)),
    )

returns : tie.Need-returns
returns c =
    let packed = c.before.before in
    let s = packed.before.before.before.before.before in
    movement_written (move (cash_of s.args.from s.args.currency) (cash_of s.args.to s.args.currency) s.args.amount.0) s.args.area.now
    _ _ _ c.before.before.before.before.cash_row.ensures c.before.before.before.cash_row-2.ensures
    c.before.before.write_movement.ensures

pub write_cash_spec : {M : Type 1} → statement M
write_cash_spec = tie.close (tie.spec (λ c κs. search rules) (λ c κs. search rules) write-movement-requires (λ c. search rules) returns)
