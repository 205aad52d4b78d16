-- `movements::withdraw` meets its contract. Assumes nothing.
use mathlib.Core.Path.{◌≡◌}
use native.Mathlib.Omega.{arith}
use borrow.Author.Rules.{rules}
use Rattle.rulebook.specs.Ledger.{account_of}
use Rattle.rulebook.specs.Forms.{withdraw}
use Rattle.movements.proofs.Known.{withdrawal_fits}
use Rattle.movements.proofs.withdraw.Statement.{statement}
use Rattle.movements.proofs.withdraw.Tie as tie

abbrev start : tie.After-account_of-from → tie.Start
start c = c.before.before.before.before

leave-requires : tie.Need-leave-requires
leave-requires c κs =
    let from = c.before.before in
    let s = start from.before in
    (s.requires.0.given.kept.stored, omega (arith, s.requires.0.room), withdrawal_fits _ _ s.requires.0.given s.requires.1 from.account_of-from.ensures)

returns : tie.Need-returns
unfolding withdraw account_of
returns c = let did = c.before.before.before.before in rw did.before.before.before.account_of-from.ensures at did.leave.ensures

pub withdraw_spec : {M : Type 1} → statement M
withdraw_spec = tie.close (tie.spec (λ c κs. search rules) leave-requires (λ c. search rules) (λ c. search rules) returns)
