-- `rows::write_movement` meets its contract: the credit row goes behind the debit row. Assumes nothing.
use native.Mathlib.Omega.{arith}
use borrow.Author.Rules.{rules}
use Rattle.rulebook.specs.Rows.{posting_bytes}
use Rattle.rows.proofs.Area.{posting_length, behind}
use Rattle.rows.proofs.write_movement.Statement.{statement}
use Rattle.rows.proofs.write_movement.Tie as tie

returns : tie.Need-returns
returns c =
    let packed = c.before.before.before.before in
    let s = packed.before.before.before.before.before in
    behind s.args.area.now _ _ (posting_bytes s.args.debit) (posting_bytes s.args.credit) 16 16
    c.before.before.before.before.before.before.write_posting.ensures (posting_length s.args.debit) (posting_length s.args.credit)
    (omega arith)
    c.before.before.write_posting-2.ensures

pub write_movement_spec : {M : Type 1} → statement M
write_movement_spec =
    tie.close
    (tie.spec (λ c κs. search rules) (λ c. search rules) (λ c. search rules) (λ c. search rules) (λ c κs. search rules) (λ c. search rules) returns)
